use Rattle.std.proofs.Common.{◌≡◌, ◌++◌, take}
use Rattle.std.specs.List.{flat_map}
use Rattle.am_mountinfo.specs.{token_note, opens_text}
use Rattle.am_mountinfo.proofs.notes.add_opens.Given as goal

abbrev pub invariant-loop-token : goal.invariant-loop-token
invariant-loop-token l =
    opens_text l.world.kernel.waits l.opens.items
    ≡ opens_text l.world.kernel.waits l.fn.opens.items ++ flat_map (token_note l.world.kernel.waits) (take l.token-index l.token-items)
