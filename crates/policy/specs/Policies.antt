-- What a policy says.
use Rattle.policy.specs.declared.policy.Policy.{Policy}
use Rattle.policy.specs.Contents.{Content, content_of}

-- the content that it keeps
abbrev pub says : Policy → Content
says p = content_of p.kept
