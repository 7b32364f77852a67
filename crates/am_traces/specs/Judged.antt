-- What a trace comes to by its laws (docs/FORMATS.md, "Judged").
use Rattle.std.specs.Prelude.{◌≡◌, ◌<◌, ◌+◌, ℕ, true, List, ◌++◌, ◌∷◌, [], length, take, codes, decimal, Option, ⊤}
use Rattle.std.specs.List.{count_by}
use Rattle.std.specs.Io.KnownBytes.{Appends, Consumes, IsAtEnd}
use Rattle.am_laws.specs.{IsFirstBreach, sentence_of}
use Rattle.am_laws.specs.TraceLaws as traces
use Rattle.am_laws.specs.declared.law.Breach.{Breach}
use Rattle.am_laws.specs.declared.law.Law.{Law}
use Rattle.am_script.specs.{lines_of}
use Rattle.am_state.specs.{Obs}
use Rattle.am_traces.specs.Says.{is_indented, IsTraceOf, IsFirstBad}
use Rattle.am_traces.specs.declared.fault.Expected.{Expected}
use Rattle.am_traces.specs.declared.fault.TraceFault.{TraceFault}
use Rattle.am_traces.specs.declared.fault.TraceFault.TheVariants as traces_unread
use Rattle.am_traces.specs.declared.verdict.JudgeFault.{JudgeFault}
use Rattle.am_traces.specs.declared.verdict.JudgeFault.TheVariants.{BadLine, NoMemory, ReadFailed, WriteFailed}
use Rattle.am_traces.specs.declared.verdict.Verdict.{Verdict}
use Rattle.am_traces.specs.declared.verdict.Verdict.TheVariants.{Lawful, Broken}

-- ---- a text

-- the number of the indented line before which so many stand
pub record IsLineOf (lines : List (List ℕ)) (place number : ℕ) : Type 0 where
  pub above : List (List ℕ)
  pub line : List ℕ
  pub below : List (List ℕ)
  pub stands : lines ≡ above ++ line ∷ below
  pub numbered : number ≡ length above + 1
  pub indented : is_indented line ≡ true
  pub placed : count_by is_indented above ≡ place

-- the first observation that breaks a law stands on this line, and breaks this law
pub record IsBroken (lines : List (List ℕ)) (seen : List Obs) (line : ℕ) (law : Law) : Type 0 where
  pub breach : Breach
  pub first : IsFirstBreach seen breach
  pub which : law ≡ breach.law
  pub stands : IsLineOf lines breach.place line

-- what these observations, which the lines say, come to
abbrev pub ComesTo : List (List ℕ) → List Obs → Verdict → Type 0
ComesTo lines seen Lawful = traces.Lawful seen
ComesTo lines seen (Broken line law) = IsBroken lines seen line law

-- the lines are a trace of these observations and of no others, which come to this
pub record IsVerdict (lines : List (List ℕ)) (verdict : Verdict) : Type 0 where
  pub seen : List Obs
  pub trace : IsTraceOf lines seen
  pub only : (other : List Obs) → IsTraceOf lines other → other ≡ seen
  pub comes : ComesTo lines seen verdict

-- ---- with a reader and a writer

-- the line that tells a verdict
abbrev pub verdict_line : Verdict → List ℕ
verdict_line Lawful = codes "lawful\n"
verdict_line (Broken line law) =
    codes "line " ++ decimal line ++ codes ": " ++ sentence_of law ++ codes "\n"

-- the input was read to its end, and its verdict is written
pub record JudgesInput (input rest old new : Option (List ℕ)) (verdict : Verdict) : Type 0 where
  pub text : List ℕ
  pub read : Consumes input rest text
  pub ended : IsAtEnd rest
  pub comes : IsVerdict (lines_of text) verdict
  pub written : Appends old new (verdict_line verdict)

-- the input was read to its end and is no trace, and nothing is written
pub record IsNoTrace (input rest old new : Option (List ℕ)) (line column : ℕ) (expected : Expected) : Type 0 where
  pub text : List ℕ
  pub read : Consumes input rest text
  pub ended : IsAtEnd rest
  pub bad : IsFirstBad (lines_of text) line column expected
  pub written : Appends old new []

-- the reader failed behind this, or memory ran out over it, and nothing is written
pub record BrokeOff (input rest old new : Option (List ℕ)) : Type 0 where
  pub text : List ℕ
  pub read : Consumes input rest text
  pub written : Appends old new []

-- the input has a verdict, of whose line the writer took a beginning alone
pub record Untold (input rest old new : Option (List ℕ)) : Type 0 where
  pub text : List ℕ
  pub read : Consumes input rest text
  pub ended : IsAtEnd rest
  pub verdict : Verdict
  pub comes : IsVerdict (lines_of text) verdict
  pub taken : ℕ
  pub short : taken < length (verdict_line verdict)
  pub written : Appends old new (take taken (verdict_line verdict))

-- why a verdict isn't written
abbrev pub StopsJudging : Option (List ℕ) → Option (List ℕ) → Option (List ℕ) → Option (List ℕ) → JudgeFault → Type 0
StopsJudging input rest old new (BadLine line column expected) =
    IsNoTrace input rest old new line column expected
StopsJudging input rest old new NoMemory = BrokeOff input rest old new
StopsJudging input rest old new ReadFailed = BrokeOff input rest old new
StopsJudging input rest old new WriteFailed = Untold input rest old new

-- ---- on the way

-- the reader failed, or memory ran out
abbrev pub IsReadingFault : JudgeFault → Type 0
IsReadingFault NoMemory = ⊤
IsReadingFault ReadFailed = ⊤
IsReadingFault _ = ⊥

-- why a text isn't judged
abbrev pub judge_fault : TraceFault → JudgeFault
judge_fault (traces_unread.BadLine line column expected) = BadLine line column expected
judge_fault traces_unread.NoMemory = NoMemory

-- why a verdict isn't told
abbrev pub IsNotTold : Verdict → Option (List ℕ) → Option (List ℕ) → JudgeFault → Type 0
IsNotTold verdict old new NoMemory = Appends old new []
IsNotTold verdict old new WriteFailed =
    (taken : ℕ) × (taken < length (verdict_line verdict)) × Appends old new (take taken (verdict_line verdict))
IsNotTold verdict old new _ = ⊥
