-- The kinds of words, by their numbers.
use Rattle.std.specs.Prelude.{ℕ, cond, Some, None, Option, ◌==◌}
use Rattle.wordlist.specs.declared.kinds.Kind.{Kind}
use Rattle.wordlist.specs.declared.kinds.Kind.TheVariants.{Floor, Ring, Corner, Cells, Row, Zone, Badges, Schema, Parent, Role, SchemaPermission, RolePermission, Assignment}

-- the kind that a number names, if it names one
abbrev pub kind_named : ℕ → Option Kind
kind_named k =
    cond (k == 1) (Some Floor)
    (cond (k == 2) (Some Ring)
    (cond (k == 3) (Some Corner)
    (cond (k == 4) (Some Cells)
    (cond (k == 5) (Some Row)
    (cond (k == 6) (Some Zone)
    (cond (k == 7) (Some Badges)
    (cond (k == 8) (Some Schema)
    (cond (k == 9) (Some Parent)
    (cond (k == 10) (Some Role)
    (cond (k == 11) (Some SchemaPermission)
    (cond (k == 12) (Some RolePermission)
    (cond (k == 13) (Some Assignment) None))))))))))))

-- the number that names a kind
abbrev pub number_of : Kind → ℕ
number_of Floor = 1
number_of Ring = 2
number_of Corner = 3
number_of Cells = 4
number_of Row = 5
number_of Zone = 6
number_of Badges = 7
number_of Schema = 8
number_of Parent = 9
number_of Role = 10
number_of SchemaPermission = 11
number_of RolePermission = 12
number_of Assignment = 13
