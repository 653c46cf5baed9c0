use mathlib.Core.Path.{◌≡◌}
use lib.ListN.{length, take}
use Rattle.memory.specs.Write.{mem_after, plain_after}
use Rattle.memory.proofs.Slots.write.Given as goal

abbrev pub invariant-loop-j : goal.invariant-loop-j
invariant-loop-j l =
    record {
      mem_len : length l.mem ≡ length l.initial.mem;
      sites_is : l.self.sites ≡ l.initial.self.sites;
      mem_is : l.mem ≡ mem_after 2 l.initial.self.sites l.initial.mem l.at (take l.j l.bytes);
      plain_is : l.self.plain ≡ plain_after 2 l.initial.self.sites l.initial.self.plain l.at (take l.j l.bytes);
    }
