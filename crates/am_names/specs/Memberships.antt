-- How a mount takes part in propagation (sharedsubtree.rst, 5a), and the row that says so.
use Rattle.std.specs.Prelude.{ℕ, Bool, true, false, Option, None, Some}
use Rattle.am_names.specs.declared.membership.Membership.{Membership}
use Rattle.am_names.specs.declared.membership.Membership.TheVariants.{InGroup, SlaveOf, Private, Unbindable}
use Rattle.am_names.specs.Member.{MemberRow}

-- the peer group of a shared mount
abbrev pub group_with : Membership → Option ℕ
group_with (InGroup g) = Some g
group_with (SlaveOf g) = None
group_with Private = None
group_with Unbindable = None

-- the master of a slave that is not shared
abbrev pub master_with : Membership → Option ℕ
master_with (InGroup g) = None
master_with (SlaveOf g) = Some g
master_with Private = None
master_with Unbindable = None

-- private, and not to be bound
abbrev pub is_unbindable : Membership → Bool
is_unbindable (InGroup g) = false
is_unbindable (SlaveOf g) = false
is_unbindable Private = false
is_unbindable Unbindable = true

-- the membership by the peer group, the master and the flag of a row
abbrev pub membership_where : Option ℕ → Option ℕ → Bool → Membership
membership_where (Some g) master unbindable = InGroup g
membership_where None (Some g) unbindable = SlaveOf g
membership_where None None true = Unbindable
membership_where None None false = Private

-- a slave of this peer group; private where there is none
abbrev pub slave_with : Option ℕ → Membership
slave_with (Some g) = SlaveOf g
slave_with None = Private

-- the row of a mount with this membership
abbrev pub row_with : Membership → ℕ → MemberRow
row_with k m = record { mount = m; group = group_with k; master = master_with k; unbindable = is_unbindable k }
