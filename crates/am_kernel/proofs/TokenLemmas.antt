-- How many tokens are open after a call, and which file systems there are.
use Rattle.std.proofs.Common.{◌≡◌, ◌≤◌, ◌+◌, ◌==◌, ℕ, Bool, true, false, cond, not, List, [], ◌∷◌, length, Option, Some, None, refl, arith}
use Rattle.std.specs.Prelude.{filter, is_some}
use Rattle.std.specs.Option.{option_map}
use Rattle.std.proofs.lemmas.List.{length-append}
use Rattle.am_names.specs.{OpenToken, TokenKind}
use Rattle.am_names.specs.declared.trigger.Trigger.{Trigger}
use Rattle.am_trigger.specs.{TriggerRows}
use Rattle.am_wait.specs.{WaitRows, token_of, joined_row, with_waiter, without_token, fs_released, collected, joined_on, rejoined, reopened}
use Rattle.am_kernel.specs.declared.waited.Waited.{Waited}
use Rattle.am_kernel.specs.declared.waited.Waited.TheVariants.{Idle, OnMount, OnExpiry}
use Rattle.am_kernel.specs.{expired_uses}

-- what is left out makes no list longer
pub filtered_no_longer : {X : Type 0} (keep : X → Bool) (xs : List X) → length (filter keep xs) ≤ length xs
filtered_no_longer keep [] = omega arith
filtered_no_longer keep (x ∷ xs) = by (keep x) (filtered_no_longer keep xs)
  where
    by : (b : Bool) → length (filter keep xs) ≤ length xs → length (cond b (x ∷ filter keep xs) (filter keep xs)) ≤ length (x ∷ xs)
    by true h = omega (arith, h)
    by false h = omega (arith, h)

pub fewer_released : (fs : ℕ) (w : WaitRows) → length (fs_released fs w).tokens ≤ length w.tokens
fewer_released fs w = filtered_no_longer (λ (row : OpenToken). not (row.trigger.fs == fs)) w.tokens

-- a token that closes was open
pub one_fewer : (token : ℕ) (rows : List OpenToken) → is_some (token_of rows token) ≡ true → length (without_token token rows) + 1 ≤ length rows
one_fewer token [] h = absurd cc
one_fewer token (row ∷ rows) h = by (row.token == token) refl h (one_fewer token rows)
  where
    by : (b : Bool) → (row.token == token) ≡ b → is_some (cond b (Some row) (token_of rows token)) ≡ true → (is_some (token_of rows token) ≡ true → length (without_token token rows) + 1 ≤ length rows) → length (cond (not b) (row ∷ without_token token rows) (without_token token rows)) + 1 ≤ length (row ∷ rows)
    by true e h later = omega (arith, filtered_no_longer (λ (r : OpenToken). not (r.token == token)) rows)
    by false e h later = omega (arith, later h)

joined_length : (token walker : ℕ) (rows : List OpenToken) → length (with_waiter token walker rows) ≡ length rows
joined_length token walker [] = refl
joined_length token walker (row ∷ rows) = by (row.token == token) (joined_length token walker rows)
  where
    by : (b : Bool) → length (with_waiter token walker rows) ≡ length rows → length (cond b (joined_row row walker ∷ rows) (row ∷ with_waiter token walker rows)) ≡ length (row ∷ rows)
    by true h = refl
    by false h = omega (arith, h)

joined_on_length : (o : Option OpenToken) (token walker : ℕ) (w : WaitRows) → length (joined_on o token walker w).tokens ≡ length w.tokens
joined_on_length None token walker w = refl
joined_on_length (Some row) token walker w = joined_length token walker w.tokens

-- who joins opens no token
pub as_many_rejoined : (token walker : ℕ) (w : WaitRows) → length (rejoined token walker w).tokens ≡ length w.tokens
as_many_rejoined token walker w = joined_on_length (token_of w.tokens token) token walker (collected walker w)

-- whose wait is reopened opens one token
pub one_more_reopened : (trigger : Trigger) (kind : TokenKind) (walker : ℕ) (w : WaitRows) → length (reopened trigger kind walker w).tokens ≡ length w.tokens + 1
one_more_reopened trigger kind walker w = length-append w.tokens _

-- who joins is given no token
joined_on_last : (o : Option OpenToken) (token walker : ℕ) (w : WaitRows) → (joined_on o token walker w).last_token ≡ w.last_token
joined_on_last None token walker w = refl
joined_on_last (Some row) token walker w = refl

pub last_rejoined : (token walker : ℕ) (w : WaitRows) → (rejoined token walker w).last_token ≡ w.last_token
last_rejoined token walker w = joined_on_last (token_of w.tokens token) token walker (collected walker w)

pub mapped_some : {X Y : Type 0} (f : X → Y) (o : Option X) (y : Y) → option_map f o ≡ Some y → is_some o ≡ true
mapped_some f (Some x) y h = refl
mapped_some f None y h = absurd cc

-- uses make no file system
pub expired_autofs : (waited : Waited) (moment : ℕ) (t : TriggerRows) → (expired_uses waited moment t).autofs ≡ t.autofs
expired_autofs Idle moment t = refl
expired_autofs OnMount moment t = refl
expired_autofs (OnExpiry trigger) moment t = refl
