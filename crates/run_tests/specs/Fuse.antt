-- The fuse. State 0 is dark, 1 glows, 2 is burnt; state n shows colour n.
use Rattle.std.specs.Prelude.{◌+◌, cond, ◌&&◌, Some, None, ◌==◌, nat_lt}
use Rattle.display.specs.Displays.{register}
use Rattle.display.specs.Machine.{Meaning}
use Rattle.run_tests.specs.declared.fuse.Fuse.{Fuse}

-- code 0 stays and holds, code 1 goes on; neither has a next state from state 2
abbrev pub fuse_meaning : Fuse → Meaning
fuse_meaning f = record {
  states = 3;
  codes = 2;
  start = 0;
  step = λ s c. cond (nat_lt s 2 && nat_lt c 2) (Some (s + c)) None;
  shown = λ s. cond (nat_lt s 3) (register f.colours s) 0;
  holds = λ c. (c == 0);
}
