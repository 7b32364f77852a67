-- A trail owns nothing, so threads may share it.
use denote.RattleType.{RattleType}
use denote.Memory.{part_of, raw_all}
use denote.Struct.Owning.{shape, to}
use denote.Param.Send.{IsSync, cell_keyless, struct_send, sendable}
use Rattle.am_trail.specs.contracts.trail.Trail.{the_row, the_type}

pub sync : (T : RattleType) → IsSync (the_row T)
unfolding part_of
sync T =
    record {
      shared = λ d b o κ. λ q vs. (
        cell_keyless q (raw_all (the_row T).mir) vs b o,
        ((struct_send (shape (the_type T)) (search sendable, tt)).owned (to (the_type T) d) vs, tt),
      );
    }
