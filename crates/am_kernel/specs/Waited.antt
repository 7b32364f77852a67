-- What a walker waited on that walks once more, and what is left where that wait is collected
-- (autofs.rst, "Mount Traps" and "Mountpoint expiry").
use Rattle.std.specs.Prelude.{◌≡◌, ℕ, List, None}
use Rattle.am_names.specs.declared.trigger.Trigger.{Trigger}
use Rattle.am_names.specs.{WaitRow, TokenKind}
use Rattle.am_names.specs.declared.row.TokenKind.TheVariants.{Missing, Expire}
use Rattle.am_trigger.specs.{TriggerRows, used}
use Rattle.am_wait.specs.{WaitRows, wait_of, collected, collect_refusal}
use Rattle.am_kernel.specs.declared.row.WalkRow.{WalkRow}
use Rattle.am_kernel.specs.declared.waited.Waited.{Waited}
use Rattle.am_kernel.specs.declared.waited.Waited.TheVariants.{Idle, OnMount, OnExpiry}
use Rattle.am_kernel.specs.State.{KernelState}
use Rattle.am_kernel.specs.Walks.{without_walk}

-- what the walker waited on is collected, in each part of the kernel
abbrev pub expired_uses : Waited → ℕ → TriggerRows → TriggerRows
expired_uses Idle moment t = t
expired_uses OnMount moment t = t
expired_uses (OnExpiry trigger) moment t = used trigger moment t

-- the walker's wait is collected, if it had one
abbrev pub waits_collected : Waited → ℕ → WaitRows → WaitRows
waits_collected Idle walker w = w
waits_collected OnMount walker w = collected walker w
waits_collected (OnExpiry trigger) walker w = collected walker w

-- the walk that waited is over, if there was one
abbrev pub walks_ended : Waited → ℕ → List WalkRow → List WalkRow
walks_ended Idle walker walks = walks
walks_ended OnMount walker walks = without_walk walker walks
walks_ended (OnExpiry trigger) walker walks = without_walk walker walks

-- what the walker waited on is collected, in all parts of the kernel
abbrev pub wait_collected_as : Waited → ℕ → ℕ → KernelState → KernelState
wait_collected_as waited walker moment k = record k {
  triggers = expired_uses waited moment k.triggers;
  waits = waits_collected waited walker k.waits;
  walks = walks_ended waited walker k.walks;
}

-- an idle walker has no wait, and another one a wait that was released
abbrev pub HasNoOpenWait : Waited → ℕ → WaitRows → Type 0
HasNoOpenWait Idle walker w = wait_of w.waits walker ≡ None
HasNoOpenWait OnMount walker w = collect_refusal walker w ≡ None
HasNoOpenWait (OnExpiry trigger) walker w = collect_refusal walker w ≡ None

-- by what the token was opened for
abbrev pub waited_for : TokenKind → Trigger → Waited
waited_for Missing trigger = OnMount
waited_for Expire trigger = OnExpiry trigger

-- what a walker with this wait waited on
abbrev pub waited_on : WaitRow → Waited
waited_on wait = waited_for wait.kind wait.trigger
