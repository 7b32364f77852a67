-- What a contract sees of rows side by side: own choice (docs/DECISIONS.md, "A map in order of
-- insertion is a crate of its own").
use Rattle.std.specs.Prelude.{ℕ, List, refl}
use Rattle.std.specs.Coded.{Coded, code_by, coded×, coded_list, coded_ℕ}

-- rows in their order, and their room
pub record RowTable (T : Type 0) : Type 0 where
  pub rows : List T
  -- how many more rows take no memory
  pub room : ℕ

-- it is stored as the pair of its fields
abbrev pub table_code : {T : Type 0} → Coded T → Coded (RowTable T)
table_code {T} row =
    code_by (List T × ℕ) (coded× (coded_list row) coded_ℕ)
    (λ t. (t.rows, t.room)) (λ p. record { rows = p.0; room = p.1 }) (λ _. refl)
