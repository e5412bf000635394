-- Each worked line computes.
use Rattle.std.proofs.Common.{refl}
use Rattle.std.specs.Fmt.{digits}
use Rattle.benchlines.specs.Worked.{GoodLines, BadLines, CutInputs, PrintedLines}
use Rattle.benchlines.proofs.worked.lines_stand.Goals as goal

good : GoodLines
good = record { report = refl; miss = refl; opens = refl; closes = refl; activates = refl; drops = refl; asks = refl; largest = refl; zeros = refl; zeros_in_front = refl }

bad : BadLines
bad = record { empty = refl; letter_alone = refl; lower_case = refl; unknown_letter = refl; two_letters = refl; space_in_front = refl; two_spaces = refl; space_at_end = refl; no_space = refl; with_tab = refl; with_return = refl; four_digits = refl; argument_missing = refl; argument_more = refl; minus = refl; plus = refl; hexadecimal = refl; stop = refl; zero_byte = refl; high_byte = refl }

cut : CutInputs
cut = record { nothing = refl; feed_alone = refl; no_feed = refl; feed_at_end = refl; two_feeds = refl; two_lines = refl }

printed : PrintedLines
unfolding digits
printed = record { done = refl; granted = refl; first_refusal = refl; last_refusal = refl; at_place = refl; nowhere = refl; enabled = refl; not_enabled = refl; roles = refl }

pub returns : goal.returns
returns c = record { good = good; bad = bad; cut = cut; printed = printed }
