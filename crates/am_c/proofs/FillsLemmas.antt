-- A call that fills the caller's buffer, from what is called in it.
use Rattle.std.proofs.Common.{◌≡◌, ℕ, List, [], length, Option, Some, Result, Ok, Err, IfOk, IfErr, subst}
use Rattle.am_script.specs.{ScriptFault, Summary}
use Rattle.am_c.specs.declared.script.AmPlayed.{AmPlayed}
use Rattle.am_c.specs.Buffer.{with_front}
use Rattle.am_c.specs.Scripts.{Fills, Goes, IsTold, fault_number}

-- how a script went is what its call ensures
pub goes_so : (ends : Summary → Type 0) (stops : ScriptFault → Type 0) (went : Result Summary ScriptFault) → IfOk went ends → IfErr went stops → Goes ends stops went
goes_so ends stops (Ok summary) ok err = ok
goes_so ends stops (Err fault) ok err = err

-- the writer has nothing where the call begins
pub fills_buffer : (ends : Option (List ℕ) → Option (List ℕ) → Option (List ℕ) → Option (List ℕ) → Summary → Type 0) (stops : Option (List ℕ) → Option (List ℕ) → Option (List ℕ) → Option (List ℕ) → ScriptFault → Type 0) (text rest start written old new : List ℕ) (went : Result Summary ScriptFault) (told : AmPlayed) (number : ℕ) → start ≡ [] → IfOk went (ends (Some text) (Some rest) (Some start) (Some written)) → IfErr went (stops (Some text) (Some rest) (Some start) (Some written)) → new ≡ with_front written old → IsTold text (length written) went told → number ≡ fault_number went → Fills ends stops text old new told number
fills_buffer ends stops text rest start written old new went told number empty ok err buffer is_told numbered = record {
  rest = rest;
  written = written;
  went = went;
  goes = subst (λ (s : List ℕ). Goes (ends (Some text) (Some rest) (Some s) (Some written)) (stops (Some text) (Some rest) (Some s) (Some written)) went) empty (goes_so (ends (Some text) (Some rest) (Some start) (Some written)) (stops (Some text) (Some rest) (Some start) (Some written)) went ok err);
  buffer = buffer;
  is_told = is_told;
  numbered = numbered;
}
