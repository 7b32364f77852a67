-- The peer groups of each namespace as they are kept. For the code alone: own
-- choice.
use Rattle.std.specs.Prelude.{◌≡◌, ◌==◌, ◌&&◌, ◌||◌, ℕ, Bool, nat_eq, List, Option}
use Rattle.std.specs.List.{list_any}
use Rattle.indexmap.specs.IndexSet.{contains}
use Rattle.am_names.specs.PeerGroups.{PeerGroups}
use Rattle.am_names.specs.{MountRow}
use Rattle.am_mountinfo.specs.declared.peers.Peers.{Peers}
use Rattle.am_mountinfo.specs.Mountinfo.{is_number, is_peer_in}

-- the same namespace and the same peer group
abbrev pub same_site : ℕ × ℕ → ℕ × ℕ → Bool
same_site x y = nat_eq x.0 y.0 && nat_eq x.1 y.1

-- the peer group is kept as one that has a mount in the namespace
abbrev pub has_site : Peers → ℕ → ℕ → Bool
has_site peers ns group = contains same_site peers.sites (ns, group)

-- those of these mounts are kept
abbrev pub ArePeers : Peers → PeerGroups → List MountRow → Type 0
ArePeers peers s rows =
    (ns group : ℕ) → has_site peers ns group ≡ list_any (is_peer_in s ns group) rows

-- that of a mount in a namespace is kept too, if it is in one
abbrev pub HasOneSiteMore : ℕ → Option ℕ → Peers → Peers → Type 0
HasOneSiteMore at peers old new =
    (ns group : ℕ) → has_site new ns group ≡ (has_site old ns group || (at == ns && is_number group peers))
