-- The last that was seen of a walker tells how it stands.
use Rattle.std.proofs.Common.{◌≡◌, ℕ, Bool, true, false, Option, Some, None, refl}
use Rattle.std.specs.Prelude.{◌==◌, ◌&&◌, is_none, is_some, if◌then◌else◌}
use Rattle.std.specs.Option.{option_map}
use Rattle.am_names.specs.{Status, WaitRow}
use Rattle.am_names.specs.declared.fail_no.FailNo.TheVariants.{ENOENT}
use Rattle.am_names.specs.declared.trigger.Status.TheVariants.{Fail}
use Rattle.am_wait.specs.{released_row, failed_row, is_waiting_on}
use Rattle.am_draw.specs.Standings.{stands_by}
use Rattle.am_draw.specs.Standings.Standing.{Rests}

-- ---- one acknowledgement

-- whoever waits on the token rests then, and nobody else stands otherwise
released_row_by_cases : (row : WaitRow) (status : Status) (st : Option Status) (b has : Bool)
    → row.status ≡ st → has ≡ (b && is_none st)
    → (if has then Rests else stands_by false (Some row)) ≡ stands_by false (Some (if b then record row { status = Some status } else row))
released_row_by_cases row status None true has e h = rw h refl
released_row_by_cases row status None false has e h = rw h refl
released_row_by_cases row status (Some s) true has e h = rw (h, e) refl
released_row_by_cases row status (Some s) false has e h = rw (h, e) refl

pub released_by_cases : (token : ℕ) (status : Status) (wait : Option WaitRow) (inside has : Bool)
    → has ≡ is_waiting_on token wait → (is_some wait ≡ true → inside ≡ false)
    → (if has then Rests else stands_by inside wait) ≡ stands_by inside (option_map (released_row token status) wait)
released_by_cases token status None inside has h apart = rw h refl
released_by_cases token status (Some row) inside has h apart =
    rw (apart refl) (released_row_by_cases row status row.status (row.token == token) has refl h)

-- ---- all tokens of a file system

-- the wait is on a token of the file system, and wasn't released
abbrev pub is_over : ℕ → Option WaitRow → Bool
is_over fs None = false
is_over fs (Some row) = row.trigger.fs == fs && is_none row.status

failed_row_by_cases : (row : WaitRow) (st : Option Status) (b has : Bool) → row.status ≡ st
    → has ≡ (b && is_none st)
    → (if has then Rests else stands_by false (Some row)) ≡ stands_by false (Some (if b && is_none row.status then record row { status = Some (Fail ENOENT) } else row))
failed_row_by_cases row None true has e h = rw (h, e) refl
failed_row_by_cases row None false has e h = rw (h, e) refl
failed_row_by_cases row (Some s) true has e h = rw (h, e) refl
failed_row_by_cases row (Some s) false has e h = rw (h, e) refl

pub failed_by_cases : (fs : ℕ) (wait : Option WaitRow) (inside has : Bool)
    → has ≡ is_over fs wait → (is_some wait ≡ true → inside ≡ false)
    → (if has then Rests else stands_by inside wait) ≡ stands_by inside (option_map (failed_row fs) wait)
failed_by_cases fs None inside has h apart = rw h refl
failed_by_cases fs (Some row) inside has h apart =
    rw (apart refl) (failed_row_by_cases row row.status (row.trigger.fs == fs) has refl h)
