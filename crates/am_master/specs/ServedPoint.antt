-- What the borrowed parts of a line say (auto.master(5), "FORMAT"), for the code alone.
use Rattle.am_master.specs.declared.words.ServedPointRef.{ServedPointRef}
use Rattle.am_master.specs.Grammar.{ServedPoint}

-- the map and the timeout whose parts are where they were read
abbrev pub served_of : ServedPointRef → ServedPoint
served_of s = record { map = s.map.now; timeout = s.timeout }
