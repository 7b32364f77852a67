-- What a contract sees of an ordered map: own choice (docs/DECISIONS.md, "A map in order of
-- insertion is a crate of its own").
use Rattle.std.specs.Prelude.{ℕ, List, refl}
use Rattle.std.specs.Coded.{Coded, code_by, coded×, coded_list, coded_ℕ}

-- a map in order of insertion, and its room
pub record OrderedTable (K V : Type 0) : Type 0 where
  -- the keys with their values, in order of insertion
  pub entries : List (K × V)
  -- how many more keys take no memory
  pub room : ℕ

-- it is stored as the pair of its fields
abbrev pub table_code : {K V : Type 0} → Coded K → Coded V → Coded (OrderedTable K V)
table_code {K} {V} key value =
    code_by (List (K × V) × ℕ) (coded× (coded_list (coded× key value)) coded_ℕ)
    (λ t. (t.entries, t.room)) (λ p. record { entries = p.0; room = p.1 }) (λ _. refl)
