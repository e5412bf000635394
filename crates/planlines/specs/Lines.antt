-- The lines that plancheck prints for a script to read.
use Rattle.std.specs.Prelude.{ℕ, List, ◌++◌, length, codes, decimal, slice_index}
use Rattle.std.specs.Option.{unwrap_or}
use Rattle.plan.specs.Hall.{Hall, type_at}
use Rattle.planview.specs.Views.{points_of}
use Rattle.policy.specs.Contents.{Content}
use Rattle.wordlist.specs.declared.faults.Told.{Told}

abbrev pub plan_line : Hall → List ℕ
plan_line h = codes "plan ok " ++ (decimal h.width ++ (codes " " ++ (decimal h.height ++ (codes " " ++ decimal (length h.places)))))

abbrev pub zones_line : Hall → List ℕ
zones_line h = codes "zones ok " ++ decimal (length h.places)

abbrev pub place_line : Hall → ℕ → List ℕ
place_line h k = codes "place " ++ (decimal k ++ (codes " type " ++ (decimal (unwrap_or (type_at h k) 0) ++ (codes " points " ++ decimal (points_of h k)))))

abbrev pub policy_line : Content → List ℕ
policy_line c =
    codes "policy ok badges " ++ (decimal c.badges ++ (codes " schemas " ++ (decimal (length c.schemas)
    ++ (codes " parents " ++ (decimal (length c.parents) ++ (codes " roles " ++ decimal (length c.roles)))))))

abbrev pub map_line : ℕ → List ℕ
map_line k = codes "map " ++ decimal k

-- the section's name, and the fault's number, layer and three figures
abbrev pub fault_line : List ℕ → Told → List ℕ
fault_line section t =
    section ++ (codes " fault " ++ (decimal t.number ++ (codes " layer " ++ (decimal t.layer
    ++ (codes " figures " ++ (decimal (slice_index t.figures 0) ++ (codes " " ++ (decimal (slice_index t.figures 1) ++ (codes " " ++ decimal (slice_index t.figures 2))))))))))
