-- The row of a token, and where it stands.
use Rattle.std.proofs.Common.{◌≡◌, ℕ, suc, ◌+◌, ◌<◌, Bool, true, false, ◌==◌, List, [], ◌∷◌, length, Some, None, set, get_or, ltb, refl, ap, subst, arith}
use Rattle.std.specs.Prelude.{position}
use Rattle.std.specs.List.{position_or_len}
use Rattle.std.proofs.lemmas.Bool.{ltb-true, le-ltb}
use Rattle.std.proofs.lemmas.Option.{cond_some}
use Rattle.am_wait.specs.{HeldToken, joined_key, with_key, held_of}
use Rattle.am_names.specs.declared.row.TokenKind.TheVariants.{Missing}
use Rattle.am_names.proofs.Cuts.{passes_on}
use Rattle.am_names.proofs.Basics.{equal_by_test}

-- the row of a token, and where it stands
pub record StandsAt (tokens : List HeldToken) (token at : ℕ) (row : HeldToken) : Type 0 where
  pub found : held_of tokens token ≡ Some row
  pub number : row.token ≡ token
  pub joined : (key : ℕ) → set tokens at (joined_key row key) ≡ with_key token key tokens

at_row : (row : HeldToken) (tokens : List HeldToken) (token : ℕ) (d : HeldToken) (b : Bool) → (row.token == token) ≡ b →
    (position_or_len (λ other. other.token == token) tokens < length tokens → StandsAt tokens token (position_or_len (λ other. other.token == token) tokens) (get_or tokens (position_or_len (λ other. other.token == token) tokens) d)) →
    position_or_len (λ other. other.token == token) (row ∷ tokens) < length (row ∷ tokens) →
    StandsAt (row ∷ tokens) token (position_or_len (λ other. other.token == token) (row ∷ tokens)) (get_or (row ∷ tokens) (position_or_len (λ other. other.token == token) (row ∷ tokens)) d)
at_row row tokens token d true e later h = record { found = rw e refl; number = rw e (equal_by_test row.token token e); joined = λ key. rw e refl }
at_row row tokens token d false e later h =
    let further : 1 + position_or_len (λ other. other.token == token) tokens ≡ suc (position_or_len (λ other. other.token == token) tokens) = omega arith in
    let there = later (omega (arith, rw e at h)) in
    record {
      found = rw (e, further) there.found;
      number = rw (e, further) there.number;
      joined = λ key. rw (e, further) (ap (λ (others : List HeldToken). row ∷ others) (there.joined key));
    }

first_stands : (tokens : List HeldToken) (token : ℕ) (d : HeldToken) → position_or_len (λ row. row.token == token) tokens < length tokens →
    StandsAt tokens token (position_or_len (λ row. row.token == token) tokens) (get_or tokens (position_or_len (λ row. row.token == token) tokens) d)
first_stands [] token d h = absurd (omega arith)
first_stands (row ∷ tokens) token d h = at_row row tokens token d (row.token == token) refl (λ less. first_stands tokens token d less) h

pub stands_at : (tokens : List HeldToken) (token at : ℕ) (d : HeldToken) → position (λ row. row.token == token) tokens ≡ Some at → StandsAt tokens token at (get_or tokens at d)
stands_at tokens token at d e =
    let h = cond_some (ltb (position_or_len (λ row. row.token == token) tokens) (length tokens)) (position_or_len (λ row. row.token == token) tokens) at e in
    subst (λ (i : ℕ). StandsAt tokens token i (get_or tokens i d)) h.1 (first_stands tokens token d (ltb-true _ _ h.0))

-- where there is no place there is no row
pub nowhere : (tokens : List HeldToken) (token : ℕ) → position (λ row. row.token == token) tokens ≡ None → held_of tokens token ≡ None
nowhere [] token e = refl
nowhere (row ∷ tokens) token e =
    let place : ℕ = position_or_len (λ other. other.token == token) tokens in
    let h = passes_on (row.token == token) place (length tokens) e in
    let further : position (λ other. other.token == token) tokens ≡ None = rw (le-ltb place (length tokens) h.1) refl in
    rw h.0 (nowhere tokens token further)

-- any row
abbrev pub nobody : HeldToken
nobody = record { token = 0; trigger = record { fs = 0; name = None }; kind = Missing; keys = [] }

-- where there is no place none gets a waiter
pub unchanged : (tokens : List HeldToken) (token key : ℕ) → position (λ row. row.token == token) tokens ≡ None → tokens ≡ with_key token key tokens
unchanged [] token key e = refl
unchanged (row ∷ tokens) token key e =
    let place : ℕ = position_or_len (λ other. other.token == token) tokens in
    let h = passes_on (row.token == token) place (length tokens) e in
    let further : position (λ other. other.token == token) tokens ≡ None = rw (le-ltb place (length tokens) h.1) refl in
    rw h.0 (ap (λ (others : List HeldToken). row ∷ others) (unchanged tokens token key further))
