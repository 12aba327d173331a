-- What the scribe says to a core.
use Rattle.std.specs.Prelude.{Bool, true, false}
use Rattle.crew.specs.declared.post.Post.{Post}
use Rattle.crew.specs.declared.post.Post.TheVariants.{Mail, Sheet, Go, Halt, Broken}

-- a core goes on where it is told so, and not where it is told to end
abbrev pub is_go : Post → Bool
is_go (Mail mail) = false
is_go (Sheet sheet) = false
is_go Go = true
is_go Halt = false
is_go Broken = false
