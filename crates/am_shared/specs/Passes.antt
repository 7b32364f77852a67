-- The passes of one history.
use Rattle.std.specs.Prelude.{◌≡◌, []}
use Rattle.atomic_table.specs.declared.shared.Seat.{Seat}
use Rattle.atomic_table.specs.Seated.{TableId}
use Rattle.am_machine.specs.{Entry}
use Rattle.am_shared.specs.declared.chronicle.Known.{Known}
use Rattle.am_shared.specs.Chronicle.{keeper, caller}

-- what a pass knows
abbrev pub view_of : Seat Entry Known → Known
view_of pass = pass.me.0

-- it is a pass of this history
abbrev pub IsOn : TableId → Seat Entry Known → Type 0
IsOn history pass =
    (pass.table_id ≡ history) × (history.words ≡ 1) × (pass.me.1 ≡ [])

-- it keeps the history, and stands for no caller
abbrev pub KeepsHistory : TableId → Seat Entry Known → Type 0
KeepsHistory history pass =
    IsOn history pass × (view_of pass ≡ keeper (view_of pass).made (view_of pass).all)

-- it is that of a caller
abbrev pub CallsOn : TableId → Seat Entry Known → Type 0
CallsOn history pass =
    IsOn history pass × (view_of pass ≡ caller (view_of pass).mine (view_of pass).seen)
