-- The words of a policy.
use Rattle.std.specs.Prelude.{ℕ, List, ◌∷◌, ◌++◌, map}
use Rattle.records.specs.Words.{badges_word, schema_word, parent_word, role_word, schema_permission_word, role_permission_word, assignment_word}
use Rattle.policy.specs.Contents.{Content}

-- the words of the records, kind by kind
abbrev pub record_words : Content → List ℕ
record_words c =
    map schema_word c.schemas
    ++ (map parent_word c.parents
    ++ (map role_word c.roles
    ++ (map schema_permission_word c.schema_permissions
    ++ (map role_permission_word c.role_permissions
    ++ map assignment_word c.assignments))))

-- the badges word, and then the words of the records
abbrev pub spelled : Content → List ℕ
spelled c = badges_word c.badges ∷ record_words c
