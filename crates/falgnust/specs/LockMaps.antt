-- The flat structs of locks, with what the definitions answer.
use Rattle.std.specs.Prelude.{ℕ, true, false, replicate}
use Rattle.local_format.specs.Out.{Out, ok, refused}
use Rattle.lock_rules.specs.Lock.{Part}
use Rattle.lock_register.specs.Read.{Head}
use Rattle.falgnust.specs.Maps.{flat_refusal, no_refusal}
use Rattle.falgnust.specs.BlockMaps.{no_parts}
use Rattle.falgnust.specs.declared.register.Claimed.{Claimed}
use Rattle.falgnust.specs.declared.register.Lock.{Lock}
use Rattle.falgnust.specs.declared.register.LockPart.{LockPart}

abbrev pub flat_claim : Out ℕ → Claimed
flat_claim (ok held) = record { accepted = true; refusal = no_refusal; held = held }
flat_claim (refused r) = record { accepted = false; refusal = flat_refusal r; held = 0 }

abbrev pub flat_lock : Out Head → Lock
flat_lock (ok l) =
    record {
      accepted = true;
      refusal = no_refusal;
      owner = l.owner;
      write = l.write;
      root_symbol_id = l.root.symbol;
      component_count = l.count;
      source = l.root.source;
    }
flat_lock (refused r) =
    record {
      accepted = false;
      refusal = flat_refusal r;
      owner = 0;
      write = false;
      root_symbol_id = 0;
      component_count = 0;
      source = replicate 32 0;
    }

abbrev pub flat_lock_part : Out Part → LockPart
flat_lock_part (ok p) =
    record {
      accepted = true;
      refusal = no_refusal;
      component = record { kind = p.kind; first = p.first; second = p.second };
    }
flat_lock_part (refused r) = record { accepted = false; refusal = flat_refusal r; component = no_parts }
