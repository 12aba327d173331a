-- The judgement of tokens and ends of lines, one after the other: which is the first fault, and what a text without one says.
use Rattle.std.specs.Prelude.{ℕ, ◌+◌, ◌==◌, Bool, true, false, nat_lt, nat_le, List, [], ◌∷◌, ◌++◌, length, Result, Ok, Err, if◌then◌else◌}
use Rattle.lit_base.specs.Distinct.{distinct}
use Rattle.lit_base.specs.Cnf.{Cnf}
use Rattle.cnf_text.specs.declared.fault.CnfFault.{CnfFault}
use Rattle.cnf_text.specs.declared.fault.CnfFault.TheVariants.{NoHeader, BadHeader, BadNumber, VariableAbove, TooManyClauses, TooFewClauses, Unclosed, OverLimit, TooLong}
use Rattle.cnf_text.specs.declared.fault.Which.TheVariants.{Variables, Clauses, Literals}
use Rattle.cnf_text.specs.declared.class.Class.{Class}
use Rattle.cnf_text.specs.declared.class.Class.TheVariants.{Magic, Format, Number, Other}
use Rattle.cnf_text.specs.declared.stage.Stage.{Stage}
use Rattle.cnf_text.specs.declared.stage.Stage.TheVariants.{Start, AfterMagic, AfterFormat, AfterVariables, AfterClauses, Body}
use Rattle.lit_base.specs.Results.{on_ok}
use Rattle.cnf_text.specs.Progress.{ProgressState}
use Rattle.cnf_text.specs.Class.{class_of}
use Rattle.cnf_text.specs.Pieces.{Piece, Token, LineEnd}

-- nothing was taken yet
abbrev pub nothing : ProgressState
nothing = record { stage = Start; limit = 0; formula = record { variables = 0; clauses = [] }; literals = []; count = 0 }

-- the header's first token is `p`
abbrev pub judge_magic : ProgressState → Class → ℕ → Result ProgressState CnfFault
judge_magic p Magic line = Ok (record p { stage = AfterMagic })
judge_magic p Format line = Err (NoHeader line)
judge_magic p (Number positive value) line = Err (NoHeader line)
judge_magic p Other line = Err (NoHeader line)

-- its second token is `cnf`
abbrev pub judge_format : ProgressState → Class → ℕ → Result ProgressState CnfFault
judge_format p Magic line = Err (BadHeader line)
judge_format p Format line = Ok (record p { stage = AfterFormat })
judge_format p (Number positive value) line = Err (BadHeader line)
judge_format p Other line = Err (BadHeader line)

-- its third token is the number of variables, digits of a value of at most 1,000,000
abbrev pub judge_variables : ProgressState → Class → ℕ → Result ProgressState CnfFault
judge_variables p Magic line = Err (BadHeader line)
judge_variables p Format line = Err (BadHeader line)
judge_variables p (Number false value) line = Err (BadHeader line)
judge_variables p (Number true value) line =
    if nat_lt 1000000 value then Err (OverLimit Variables line)
    else Ok (record { stage = AfterVariables; limit = 0; formula = record { variables = value; clauses = [] }; literals = []; count = 0 })
judge_variables p Other line = Err (BadHeader line)

-- its fourth token is the number of clauses, digits of a value of at most 4,000,000
abbrev pub judge_clauses : ProgressState → Class → ℕ → Result ProgressState CnfFault
judge_clauses p Magic line = Err (BadHeader line)
judge_clauses p Format line = Err (BadHeader line)
judge_clauses p (Number false value) line = Err (BadHeader line)
judge_clauses p (Number true value) line =
    if nat_lt 4000000 value then Err (OverLimit Clauses line) else Ok (record p { stage = AfterClauses; limit = value })
judge_clauses p Other line = Err (BadHeader line)

-- digits of value 0 end a clause, which keeps its distinct literals
abbrev pub judge_end : ProgressState → ℕ → Result ProgressState CnfFault
judge_end p line =
    if nat_le p.limit (length p.formula.clauses) then Err (TooManyClauses line)
    else Ok (record p { formula = record p.formula { clauses = p.formula.clauses ++ distinct p.literals ∷ [] }; literals = [] })

-- a literal: its variable is one of the formula's, another clause is wanted, and it is one of at most 8,000,000
abbrev pub judge_literal : ProgressState → Bool → ℕ → ℕ → Result ProgressState CnfFault
judge_literal p positive variable line =
    if nat_lt p.formula.variables variable then Err (VariableAbove line)
    else (if nat_le p.limit (length p.formula.clauses) then Err (TooManyClauses line)
    else (if nat_le 8000000 p.count then Err (OverLimit Literals line)
    else Ok (record p { literals = p.literals ++ record { variable = variable; positive = positive } ∷ []; count = p.count + 1 })))

-- a number after the header; `-0` is no literal and no end
abbrev pub judge_number : ProgressState → Bool → ℕ → ℕ → Result ProgressState CnfFault
judge_number p true value line = if value == 0 then judge_end p line else judge_literal p true value line
judge_number p false value line = if value == 0 then Err (BadNumber line) else judge_literal p false value line

-- a token after the header
abbrev pub judge_body : ProgressState → Class → ℕ → Result ProgressState CnfFault
judge_body p Magic line = Err (BadNumber line)
judge_body p Format line = Err (BadNumber line)
judge_body p (Number positive value) line = judge_number p positive value line
judge_body p Other line = Err (BadNumber line)

-- whether the header line stands behind
abbrev pub is_body : Stage → Bool
is_body Start = false
is_body AfterMagic = false
is_body AfterFormat = false
is_body AfterVariables = false
is_body AfterClauses = false
is_body Body = true

-- a token of this class, by the stage
abbrev pub judge_at : Stage → ProgressState → Class → ℕ → Result ProgressState CnfFault
judge_at Start p class line = judge_magic p class line
judge_at AfterMagic p class line = judge_format p class line
judge_at AfterFormat p class line = judge_variables p class line
judge_at AfterVariables p class line = judge_clauses p class line
judge_at AfterClauses p class line = Err (BadHeader line)
judge_at Body p class line = judge_body p class line

-- a whole token; an empty one means nothing
abbrev pub judge_token : ProgressState → List ℕ → ℕ → Result ProgressState CnfFault
judge_token p [] line = Ok p
judge_token p (b ∷ bs) line = judge_at p.stage p (class_of (b ∷ bs)) line

-- a token has at most 64 bytes; one that isn't whole is judged for its length alone
abbrev pub judge_bytes : ProgressState → Bool → List ℕ → ℕ → Result ProgressState CnfFault
judge_bytes p whole bytes line =
    if nat_lt 64 (length bytes) then Err (TooLong line) else (if whole then judge_token p bytes line else Ok p)

-- the end of a line: a header's line ends behind its fourth token
abbrev pub judge_line_end : Stage → ProgressState → ℕ → Result ProgressState CnfFault
judge_line_end Start p line = Ok p
judge_line_end AfterMagic p line = Err (BadHeader line)
judge_line_end AfterFormat p line = Err (BadHeader line)
judge_line_end AfterVariables p line = Err (BadHeader line)
judge_line_end AfterClauses p line = Ok (record p { stage = Body })
judge_line_end Body p line = Ok p

-- a piece: a token, or the end of a line
abbrev pub judge_piece : ProgressState → Piece → Result ProgressState CnfFault
judge_piece p (Token line whole bytes) = judge_bytes p whole bytes line
judge_piece p (LineEnd line) = judge_line_end p.stage p line

-- the first fault of the pieces in turn, or what they say
abbrev pub judge : ProgressState → List Piece → Result ProgressState CnfFault
judge p [] = Ok p
judge p (piece ∷ more) = on_ok (judge_piece p piece) (λ next. judge next more)

-- the faults of the end, and the formula where there is none
abbrev pub finish_at : Stage → ProgressState → ℕ → Result Cnf CnfFault
finish_at Start p line = Err (NoHeader line)
finish_at AfterMagic p line = Err (NoHeader line)
finish_at AfterFormat p line = Err (NoHeader line)
finish_at AfterVariables p line = Err (NoHeader line)
finish_at AfterClauses p line = Err (NoHeader line)
finish_at Body p line =
    if length p.literals == 0 then (if nat_lt (length p.formula.clauses) p.limit then Err (TooFewClauses line) else Ok p.formula)
    else Err (Unclosed line)

-- the end of the input, in this line
abbrev pub finish : ProgressState → ℕ → Result Cnf CnfFault
finish p line = finish_at p.stage p line
