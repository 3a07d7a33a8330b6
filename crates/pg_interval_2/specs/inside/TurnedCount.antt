-- A count with its sign turned: cited by private contracts alone.
use Rattle.std.specs.Prelude.{Bool}
use Rattle.scan_core.specs.Count.{Count, count_of}
use Rattle.pg_interval_2.specs.Turned.{turned_sign}

-- a count, turned or not
abbrev pub turned_count : Bool → Count → Count
turned_count turned c = count_of (turned_sign turned c.negative) c.whole c.fraction c.unit
