-- The record of the code with one part changed.
use Rattle.std.specs.Prelude.{ℕ, List, [], ◌∷◌, take, drop, set}
use Rattle.target.specs.Limits.{plain_room}
use Rattle.target.specs.declared.Draft.{Draft}
use Rattle.target.specs.declared.Entry.{Entry}
use Rattle.target.specs.declared.Process.{Process}
use Rattle.target.specs.declared.Target.{Target}

-- what stands beside the table
abbrev pub with_beside : Target → List Process → ℕ → ℕ → Target
with_beside t ps selected current = record {
  base = t.base;
  size = t.size;
  protected = t.protected;
  count = t.count;
  processes = ps;
  selected = selected;
  current = current;
  table = t.table;
}

-- one process set
abbrev pub with_process : Target → ℕ → Process → Target
with_process t i p = with_beside t (set t.processes i p) t.selected t.current

abbrev pub with_table : Target → List Entry → Draft → Target
with_table t es d = record {
  base = t.base;
  size = t.size;
  protected = t.protected;
  count = t.count;
  processes = t.processes;
  selected = t.selected;
  current = t.current;
  table = record { entries = es; draft = d };
}

-- entries with the room for their plain bytes taken from the slots' bytes
unfoldable pub store_plains : List Entry → List ℕ → List Entry
store_plains [] bytes = []
store_plains (e ∷ es) bytes =
    record {
      used = e.used;
      id = e.id;
      count = e.count;
      plain = take plain_room bytes;
      site = e.site;
    }
    ∷ store_plains es (drop plain_room bytes)

-- the entry of a new breakpoint
abbrev pub made_of : Draft → ℕ → ℕ → ℕ → Entry
made_of d site b0 b1 = record { used = 1; id = d.id; count = d.count; plain = b0 ∷ b1 ∷ 0 ∷ 0 ∷ []; site = site }
