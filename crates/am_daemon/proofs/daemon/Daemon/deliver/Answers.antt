use Rattle.std.proofs.Common.{refl, sym, subst}
use Rattle.std.specs.Prelude.{Ok, Err}
use Rattle.am_wire.specs.{IsPacket}
use Rattle.am_wire.specs.Fields.{Fields}
use Rattle.am_daemon.specs.{rows_of}
use Rattle.am_daemon.proofs.DeliveryLemmas.{left_as}
use Rattle.am_daemon.proofs.daemon.Daemon.deliver.Goals as goal

pub returns-in-Ok : goal.returns-in-Ok
returns-in-Ok c =
    record {
      read = Ok c.to_packet.result;
      is_read = subst (λ (s : Fields). IsPacket s c.args.bytes.now) (sym c.to_packet.ensures) c.in-Ok.ensures.ok;
      fault = c.take_up.ensures.fault;
      left =
          left_as c.args.attach c.to_packet.result (rows_of c.args.self.now) (rows_of c.take_up.new.self) c.take_up.result c.take_up.ensures.job c.take_up.ensures.ok c.take_up.ensures.err;
    }

pub returns-in-Err : goal.returns-in-Err
returns-in-Err c = record { read = Err c.in-Err.fault; is_read = c.in-Err.ensures.err; fault = refl; left = refl }
