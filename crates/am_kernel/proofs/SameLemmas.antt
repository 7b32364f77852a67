-- Two kernels that are the same, part by part.
use Rattle.std.proofs.Common.{◌≡◌, ap}
use Rattle.am_kernel.specs.State.{KernelState}
use Rattle.am_kernel.specs.Same.{HaveSameTriggers, HaveSameWalks}

-- kernels with the same parts and the same numbers are the same
pub same_kernels : (k l : KernelState) → HaveSameTriggers k l → HaveSameWalks k l →
    k.last_fs ≡ l.last_fs → k.last_attach ≡ l.last_attach → k.latest ≡ l.latest → k.negative ≡ l.negative → k ≡ l
same_kernels k l triggers walks last_fs last_attach latest negative = λ i. record {
  table = triggers.table i;
  triggers = triggers.triggers i;
  failures = triggers.failures i;
  waits = triggers.waits i;
  uses = walks.uses i;
  attached = walks.attached i;
  walks = walks.walks i;
  queue = walks.queue i;
  last_fs = last_fs i;
  last_attach = last_attach i;
  latest = latest i;
  negative = negative i;
}

pub same_triggers : (k l : KernelState) → k ≡ l → HaveSameTriggers k l
same_triggers k l same = record {
  table = ap (λ (x : KernelState). x.table) same;
  triggers = ap (λ (x : KernelState). x.triggers) same;
  failures = ap (λ (x : KernelState). x.failures) same;
  waits = ap (λ (x : KernelState). x.waits) same;
}

pub same_walks : (k l : KernelState) → k ≡ l → HaveSameWalks k l
same_walks k l same = record {
  uses = ap (λ (x : KernelState). x.uses) same;
  attached = ap (λ (x : KernelState). x.attached) same;
  walks = ap (λ (x : KernelState). x.walks) same;
  queue = ap (λ (x : KernelState). x.queue) same;
}
