-- Whether a trace is lawful, and which law it breaks, as C is told (docs/FORMATS.md, "Judged").
use Rattle.std.specs.Prelude.{◌≡◌, ◌≢◌, ◌⊎◌, ℕ, List, []}
use Rattle.am_laws.specs.{law_number, sentence_of}
use Rattle.am_laws.specs.declared.law.Law.{Law}
use Rattle.am_script.specs.{lines_of}
use Rattle.am_traces.specs.Judged.{IsVerdict}
use Rattle.am_traces.specs.Says.{IsUnread}
use Rattle.am_traces.specs.declared.fault.Expected.{Expected}
use Rattle.am_traces.specs.declared.fault.Expected.TheVariants.{Observation, Number, Token, Attach, Fs, Mount, Status, PacketType, PacketNumber, PacketName, Key, Entry, End}
use Rattle.am_traces.specs.declared.fault.TraceFault.{TraceFault}
use Rattle.am_traces.specs.declared.fault.TraceFault.TheVariants.{BadLine, NoMemory}
use Rattle.am_traces.specs.declared.verdict.Verdict.{Verdict}
use Rattle.am_traces.specs.declared.verdict.Verdict.TheVariants.{Lawful, Broken}
use Rattle.am_c.specs.declared.trace.AmJudged.{AmJudged}

-- ---- numbers

-- the number of what was expected
abbrev pub expected_number : Expected → ℕ
expected_number Observation = 1
expected_number Number = 2
expected_number Token = 3
expected_number Attach = 4
expected_number Fs = 5
expected_number Mount = 6
expected_number Status = 7
expected_number PacketType = 8
expected_number PacketNumber = 9
expected_number PacketName = 10
expected_number Key = 11
expected_number Entry = 12
expected_number End = 13

-- the number of the fault
abbrev pub fault_number : TraceFault → ℕ
fault_number (BadLine line column expected) = 1
fault_number NoMemory = 2

-- ---- what C is told

-- of a trace that is lawful, or breaks a law
abbrev pub judged_as : Verdict → AmJudged
judged_as Lawful = record { line = 0; column = 0; expected = 0; lawful = 1; law = 0 }
judged_as (Broken line law) = record {
  line = line;
  column = 0;
  expected = 0;
  lawful = 0;
  law = law_number law;
}

-- of a fault
abbrev pub unread_as : TraceFault → AmJudged
unread_as (BadLine line column expected) = record {
  line = line;
  column = column;
  expected = expected_number expected;
  lawful = 0;
  law = 0;
}
unread_as NoMemory = record { line = 0; column = 0; expected = 0; lawful = 0; law = 0 }

-- ---- a call

-- the text is a trace, and C is told what it comes to
pub record IsJudged (text : List ℕ) (told : AmJudged) : Type 0 where
  pub verdict : Verdict
  pub comes : IsVerdict (lines_of text) verdict
  pub is_told : told ≡ judged_as verdict

-- the first line that is no trace's is told, or memory ran out
pub record IsNoTrace (text : List ℕ) (told : AmJudged) (number : ℕ) : Type 0 where
  pub fault : TraceFault
  pub unread : IsUnread (lines_of text) fault
  pub is_told : told ≡ unread_as fault
  pub numbered : number ≡ fault_number fault

-- the text is a trace, which is no fault; or there is one
abbrev pub Judges : List ℕ → AmJudged → ℕ → Type 0
Judges text told number = (IsJudged text told × (number ≡ 0)) ⊎ IsNoTrace text told number

-- it is the sentence of the law with this number; there is none where no law has it
abbrev pub IsSentenceOf : ℕ → List ℕ → Type 0
IsSentenceOf number sentence =
    ((law : Law) × (law_number law ≡ number) × (sentence ≡ sentence_of law))
    ⊎ (((law : Law) → law_number law ≢ number) × (sentence ≡ []))
