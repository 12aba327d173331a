-- What reading words gives.
use Rattle.std.specs.Prelude.{◌≡◌, Option, Some, None, Result, Ok, Err}
use Rattle.job_words.specs.declared.job.WordFault.{WordFault}
use Rattle.job_words.specs.declared.job.WordFault.TheVariants.{Usage, NoMemory}

-- reading words gives what they ask for, and a usage fault exactly where they ask for nothing
abbrev pub ReadsWords : {X : Type 0} → Option X → Result X WordFault → Type 0
ReadsWords wanted (Ok read) = wanted ≡ Some read
ReadsWords wanted (Err Usage) = wanted ≡ None
ReadsWords wanted (Err NoMemory) = Unit {0}
