-- A call that uses the world that C holds, from what is called in it.
use Rattle.std.proofs.Common.{◌≡◌, ℕ, List, length, Option, Some, None, Result, Ok, Err, refl, subst, sym, arith}
use Rattle.am_script.specs.{ScriptFault, Summary}
use Rattle.am_session.specs.{IsNew, Session}
use Rattle.am_c.specs.Buffer.{with_front}
use Rattle.am_c.specs.Scripts.{IsTold, fault_number}
use Rattle.am_c.specs.Sessions.{Held, News, Uses, began, held_count, session_in}

-- a world is there, and is put back
pub uses_held : (does : Session → Session → List ℕ → Result Summary ScriptFault → Type 0) (text : List ℕ) (inside : Option Session) (session next : Session) (old new : Held) (written : List ℕ) (went : Result Summary ScriptFault) (number : ℕ) → inside ≡ Some session → new.inside ≡ Some next → does session next written went → new.buffer ≡ with_front written old.buffer → IsTold text (length written) went new.told → number ≡ fault_number went → Uses does text inside old new number
uses_held does text inside session next old new written went number there put d buffer told numbered =
    subst (λ (k : Option Session). Uses does text k old new number) (sym there) (record {
      next = next;
      inside = put;
      written = written;
      went = went;
      does = d;
      buffer = buffer;
      is_told = told;
      numbered = numbered;
    })

-- nothing is held where none is counted
pub none_held : (inside : Option Session) (count : ℕ) → count ≡ held_count inside → count ≡ 0 → inside ≡ None
none_held None count fits zero = refl
none_held (Some session) count fits zero = absurd (omega (arith, fits, zero))

-- a world is made, or none
pub news_made : (head : List ℕ) (inside : Option Session) (old new : Held) (made : Result Session ScriptFault) (number : ℕ) → inside ≡ None → IsNew head made → new.inside ≡ session_in made → IsTold head 0 (began made) new.told → number ≡ fault_number (began made) → News head inside old new number
news_made head inside old new made number none is_new put told numbered =
    subst (λ (k : Option Session). News head k old new number) (sym none) (record {
      made = made;
      is_new = is_new;
      inside = put;
      is_told = told;
      numbered = numbered;
    })
