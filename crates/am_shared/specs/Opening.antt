-- What a shared world begins with.
use Rattle.std.specs.Prelude.{[]}
use Rattle.atomic_table.specs.Seated.{TableId}
use Rattle.am_machine.specs.{Setup}
use Rattle.am_shared.specs.declared.opening.Opening.{Opening}

-- the opening of a run
abbrev pub opening_of : Opening → Setup
opening_of o = record { limits = o.limits; master = o.master; maps = o.maps.items }

-- the name of no pipe and of no history
abbrev pub no_table : TableId
no_table = record {
  words = 0;
  slots = 0;
  views_name = 0;
  atom = 0;
  block = 0;
  offset = 0;
  slot_names = [];
}
