-- The law of receivers, for a change told by groups and homes.
use Rattle.std.proofs.Common.{◌≡◌, ◌≢◌, ℕ, Bool, true, Some, sym, ◌∙◌}
use Rattle.std.specs.Prelude.{is_some}
use Rattle.am_names.specs.PeerGroups.{PeerGroups}
use Rattle.am_group.specs.{member_row, group_of, settled, IsPeopled, AddsNoReceivers}
use Rattle.am_group.proofs.ReceiveLemmas.{IsUnder, under_from_way, reached_from_under}
use Rattle.am_group.proofs.SettleLemmas.{group_of-settled, under-settled}

-- of two mounts that stood before, none comes under the other's group
abbrev pub BringsNoneUnder : PeerGroups → PeerGroups → Type 0
BringsNoneUnder old new = (b c g : ℕ) → is_some (member_row old.members b) ≡ true → is_some (member_row old.members c) ≡ true → c ≢ b → group_of new b ≡ Some g → IsUnder new c g → (group_of old b ≡ Some g) × IsUnder old c g

pub law_from_under : (old new : PeerGroups) → IsPeopled old → BringsNoneUnder old new → AddsNoReceivers old new
law_from_under old new peopled none b c stands_b stands_c receives =
    let after = under_from_way new receives.way b c receives.arrives in
    let before = none b c after.0 stands_b stands_c receives.is_other after.1 after.2 in
    let way = reached_from_under old peopled b c after.0 before.0 before.1 in
    record { is_other = receives.is_other; way = way.0; arrives = way.1 }

-- settling afterwards brings none under either
pub none_under-settled : (stays : ℕ → Bool) (old new : PeerGroups) → BringsNoneUnder old new → BringsNoneUnder old (settled stays new)
none_under-settled stays old new none b c g stands_b stands_c other in_g under = none b c g stands_b stands_c other (sym (group_of-settled stays new b) ∙ in_g) (under-settled stays new c g under)
