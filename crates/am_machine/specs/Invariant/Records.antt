-- What a pending record is about: an open token of its kind (own choice).
use Rattle.std.specs.Prelude.{◌≡◌, ◌≤◌, ℕ, Bool, true, false, List, Some}
use Rattle.std.specs.List.{All}
use Rattle.am_names.specs.{OpenToken, TokenKind}
use Rattle.am_names.specs.declared.row.TokenKind.TheVariants.{Missing, Expire}
use Rattle.am_wait.specs.{WaitRows, token_of}
use Rattle.am_state.specs.{Record, RecordRow}
use Rattle.am_state.specs.declared.daemon_row.Record.TheVariants.{Mounting, Mounted, Unmounting}
use Rattle.am_machine.specs.Invariant.Books.{is_pending_for}

-- a missing mount is being mounted, and what is to expire is being unmounted
abbrev pub is_of_kind : TokenKind → Record → Bool
is_of_kind Missing (Mounting token) = true
is_of_kind Missing (Mounted mount) = false
is_of_kind Missing (Unmounting token mount) = false
is_of_kind Expire (Mounting token) = false
is_of_kind Expire (Mounted mount) = false
is_of_kind Expire (Unmounting token mount) = true

-- the token of a pending record was given, and as long as it is open the record is of its kind
pub record IsOfItsToken (w : WaitRows) (entry : Record) : Type 0 where
  pub given : (token : ℕ) → is_pending_for token (Some entry) ≡ true → token ≤ w.last_token
  pub kind : (token : ℕ) (row : OpenToken) → token_of w.tokens token ≡ Some row →
      is_pending_for token (Some entry) ≡ true → is_of_kind row.kind entry ≡ true

-- each record of the book is one of its token
abbrev pub AreOfTheirTokens : WaitRows → List RecordRow → Type 0
AreOfTheirTokens w book = All (λ (row : RecordRow). IsOfItsToken w row.entry) book
