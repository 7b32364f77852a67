-- The words behind a key or a mount point are read just where they are as the parameters say.
use Rattle.std.proofs.Common.{◌≡◌, ℕ, ◌+◌, Bool, true, false, cond, List, [], ◌∷◌, ◌++◌, drop, Option, Some, None, Result, Ok, Err, refl, sym}
use Rattle.std.specs.Prelude.{codes, bytes_eq, is_ok, is_none, nat_eq}
use Rattle.std.specs.List.{starts_with}
use Rattle.std.proofs.lemmas.List.{append-nil}
use Rattle.std.proofs.lemmas.Slice.Eq.{bytes_eq-Decides}
use Rattle.am_lines.specs.{begins_with}
use Rattle.am_map.specs.Words.{is_options, is_location}
use Rattle.am_map.specs.Grammar.{entry_read, entry_with}
use Rattle.am_master.specs.Words.{name_read}
use Rattle.am_master.specs.Grammar.{served_read, served}
use Rattle.am_master.specs.Timeout.{takes_next, value_in, is_seconds, timeout_values, timeout_of, timeout_read}
use Rattle.am_master.specs.declared.fault.MasterFaultKind.{MasterFaultKind}
use Rattle.am_diagnosis.specs.declared.expected.Expected.TheVariants.{Location, Map, MasterOption, Timeout}
use Rattle.am_diagnosis.specs.declared.misfit.Misfit.{Misfit}
use Rattle.am_diagnosis.specs.Misfits.{Words, ReadsJust, misfit_at, misfit_of}
use Rattle.am_diagnosis.specs.Maps.{entry_parameters, served_parameters, IsEntry, IsServed}
use Rattle.am_diagnosis.proofs.MisfitLemmas.{shut}
use Rattle.am_diagnosis.proofs.LawLemmas.{just_by_tests}

-- ---- entries

-- options and a location alone
location_agrees : (place : ℕ) (options : Option (List ℕ)) (words : Words) → is_ok (entry_with options words) ≡ is_none (misfit_of place (Location ∷ []) words)
location_agrees place options [] = refl
location_agrees place options (word ∷ []) = go (is_location word) refl
  where
    go : (b : Bool) → is_location word ≡ b → is_ok (entry_with options (word ∷ [])) ≡ is_none (misfit_of place (Location ∷ []) (word ∷ []))
    go true e = rw e refl
    go false e = rw e refl
location_agrees place options (word ∷ other ∷ words) = sym (shut place (Location ∷ []) word (other ∷ words) refl)

-- a location alone, which isn't options
alone_agrees : (place : ℕ) (word : List ℕ) (words : Words) → begins_with 45 word ≡ false → is_ok (entry_with None (word ∷ words)) ≡ is_none (misfit_of place entry_parameters (word ∷ words))
alone_agrees place word [] e = go (is_location word) refl
  where
    go : (b : Bool) → is_location word ≡ b → is_ok (entry_with None (word ∷ [])) ≡ is_none (misfit_of place entry_parameters (word ∷ []))
    go true h = rw (e, h) refl
    go false h = rw (e, h) refl
alone_agrees place word (other ∷ words) e = sym (shut place entry_parameters word (other ∷ words) (rw e refl))

entry_agrees : (place : ℕ) (words : Words) → is_ok (entry_read words) ≡ is_none (misfit_of place entry_parameters words)
entry_agrees place [] = refl
entry_agrees place (word ∷ words) = go (begins_with 45 word) refl (is_options word) refl
  where
    go : (dash : Bool) → begins_with 45 word ≡ dash → (options : Bool) → is_options word ≡ options → is_ok (entry_read (word ∷ words)) ≡ is_none (misfit_of place entry_parameters (word ∷ words))
    go true d true o = rw (d, o) (location_agrees (place + 1) (Some (drop 1 word)) words)
    go true d false o = rw (d, o) refl
    go false d options o = rw d (let a = alone_agrees place word words d in rw d at a)

-- ---- maps and options

no_value : (word : List ℕ) → takes_next word ≡ true → value_in word ≡ []
no_value word e = go (bytes_eq word (codes "--timeout")) refl
  where
    go : (b : Bool) → bytes_eq word (codes "--timeout") ≡ b → value_in word ≡ []
    go true h = rw ((bytes_eq-Decides word (codes "--timeout")).0 h) refl
    go false h = let t : bytes_eq word (codes "-t") ≡ true = rw h at e in rw ((bytes_eq-Decides word (codes "-t")).0 t) (refl {a = []})

-- one option, behind which the others are read
option_agrees : (place : ℕ) (timeout : ℕ) (word : List ℕ) (values words : Words) → takes_next word ≡ false → ((t : ℕ) → is_ok (timeout_of t values) ≡ is_none (misfit_of (place + 1) (MasterOption ∷ []) words)) → is_ok (timeout_of timeout (value_in word ++ values)) ≡ is_none (misfit_of place (MasterOption ∷ []) (word ∷ words))
option_agrees place timeout word values words none rest = go (starts_with nat_eq word (codes "--timeout=")) refl (is_seconds (drop 10 word)) refl
  where
    go : (b : Bool) → starts_with nat_eq word (codes "--timeout=") ≡ b → (s : Bool) → is_seconds (drop 10 word) ≡ s → is_ok (timeout_of timeout (value_in word ++ values)) ≡ is_none (misfit_of place (MasterOption ∷ []) (word ∷ words))
    go true h true s = rw (h, s, none) (rest _)
    go true h false s = rw (h, s) refl
    go false h s e = rw (h, none) (rest timeout)

-- a timeout's value, behind which options are read
value_agrees : (place : ℕ) (timeout : ℕ) (value : List ℕ) (words : Words) → ((t : ℕ) → is_ok (timeout_of t (timeout_values words)) ≡ is_none (misfit_of (place + 1) (MasterOption ∷ []) words)) → is_ok (timeout_of timeout (value ∷ timeout_values words)) ≡ is_none (misfit_of place (Timeout ∷ []) (value ∷ words))
value_agrees place timeout value words rest = go (is_seconds value) refl
  where
    go : (b : Bool) → is_seconds value ≡ b → is_ok (timeout_of timeout (value ∷ timeout_values words)) ≡ is_none (misfit_of place (Timeout ∷ []) (value ∷ words))
    go true h = rw h (rest _)
    go false h = rw h refl

options_agree : (place : ℕ) (timeout : ℕ) (words : Words) → is_ok (timeout_of timeout (timeout_values words)) ≡ is_none (misfit_of place (MasterOption ∷ []) words)
options_agree place timeout [] = refl
options_agree place timeout (word ∷ []) = go (takes_next word) refl
  where
    go : (b : Bool) → takes_next word ≡ b → is_ok (timeout_of timeout (timeout_values (word ∷ []))) ≡ is_none (misfit_of place (MasterOption ∷ []) (word ∷ []))
    go true h = rw (h, no_value word h) refl
    go false h = rw h (let o = option_agrees place timeout word [] [] h (λ t. refl) in rw (append-nil (value_in word), h) at o)
options_agree place timeout (word ∷ next ∷ words) = go (takes_next word) refl (λ t. options_agree (place + 1 + 1) t words) (λ t. options_agree (place + 1) t (next ∷ words))
  where
    go : (b : Bool) → takes_next word ≡ b → ((t : ℕ) → is_ok (timeout_of t (timeout_values words)) ≡ is_none (misfit_of (place + 1 + 1) (MasterOption ∷ []) words)) → ((t : ℕ) → is_ok (timeout_of t (timeout_values (next ∷ words))) ≡ is_none (misfit_of (place + 1) (MasterOption ∷ []) (next ∷ words))) → is_ok (timeout_of timeout (timeout_values (word ∷ next ∷ words))) ≡ is_none (misfit_of place (MasterOption ∷ []) (word ∷ next ∷ words))
    go true h behind rest = rw (h, no_value word h) (value_agrees (place + 1) timeout next words behind)
    go false h behind rest = rw h (let o = option_agrees place timeout word (timeout_values (next ∷ words)) (next ∷ words) h rest in rw h at o)

map_agrees : (place : ℕ) (name : Result (List ℕ) MasterFaultKind) (timeout : Result ℕ MasterFaultKind) (others : Option Misfit) → is_ok timeout ≡ is_none others → is_ok (served name timeout) ≡ is_none (cond (is_ok name) others (Some (misfit_at place Map)))
map_agrees place (Ok name) (Ok timeout) others h = h
map_agrees place (Ok name) (Err fault) others h = h
map_agrees place (Err fault) timeout others h = refl

served_agrees : (place : ℕ) (words : Words) → is_ok (served_read words) ≡ is_none (misfit_of place served_parameters words)
served_agrees place [] = refl
served_agrees place (word ∷ options) =
    map_agrees place (name_read word) (timeout_read options) (misfit_of (place + 1) (MasterOption ∷ []) options) (options_agree (place + 1) 300 options)

pub entries_are_read : ReadsJust IsEntry (misfit_of 1 entry_parameters)
entries_are_read = just_by_tests (λ words. is_ok (entry_read words)) (misfit_of 1 entry_parameters) (entry_agrees 1)

pub served_points_are_read : ReadsJust IsServed (misfit_of 1 served_parameters)
served_points_are_read = just_by_tests (λ words. is_ok (served_read words)) (misfit_of 1 served_parameters) (served_agrees 1)
