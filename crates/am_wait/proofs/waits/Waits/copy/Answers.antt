use Rattle.std.proofs.Common.{refl, ◌∙◌}
use Rattle.am_wait.specs.declared.waits.Waits.TheInside.{Inside}
use Rattle.am_wait.proofs.SameLemmas.{Same, same_kept, same_rows, same_slots}
use Rattle.am_wait.proofs.waits.Waits.copy.Goals as goal

pub invariant_of-result : goal.invariant_of-result
invariant_of-result c =
    let made : Inside = record {
      tokens = c.in_ok-copy.field-0;
      seats = c.in_ok-copy-2.field-0;
      slab = c.in_ok-copy_of.field-0;
      last_token = c.self.inside.last_token;
      most_waits = c.self.inside.most_waits;
      most_tokens = c.self.inside.most_tokens;
    } in
    let same : Same c.self.inside made = record {
      tokens = c.in_ok-copy.ensures;
      seats = c.in_ok-copy-2.ensures.rows;
      slab = same_slots c.self.inside.slab c.in_ok-copy_of.field-0 c.in_ok-copy_of.ensures;
      last = refl;
      waiters = refl;
      numbers = refl;
    } in
    same_kept c.self.inside made c.self.invariant same

pub returns : goal.returns
returns c =
    let made : Inside = record {
      tokens = c.in_ok-copy.field-0;
      seats = c.in_ok-copy-2.field-0;
      slab = c.in_ok-copy_of.field-0;
      last_token = c.self.inside.last_token;
      most_waits = c.self.inside.most_waits;
      most_tokens = c.self.inside.most_tokens;
    } in
    let same : Same c.self.inside made = record {
      tokens = c.in_ok-copy.ensures;
      seats = c.in_ok-copy-2.ensures.rows;
      slab = same_slots c.self.inside.slab c.in_ok-copy_of.field-0 c.in_ok-copy_of.ensures;
      last = refl;
      waiters = refl;
      numbers = refl;
    } in
    same_rows c.self.inside made same ∙ c.self.view_is
