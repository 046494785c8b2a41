-- The three displays. Of each palette number only the low twelve bits count.
use Rattle.std.specs.Prelude.{ℕ, ◌-◌, ◌/◌, ◌%◌, false, cond, ◌&&◌, List, Some, None, ◌==◌, nat_le, nat_lt, slice_index}
use Rattle.display.specs.Colours.{colour_of, red_of, green_of, blue_of}
use Rattle.display.specs.Machine.{Meaning}
use Rattle.display.specs.declared.ham.Ham.{Ham}
use Rattle.display.specs.declared.half_brite.HalfBrite.{HalfBrite}
use Rattle.display.specs.declared.fill.Fill.{Fill}

-- the colour in a palette's register n
abbrev pub register : List ℕ → ℕ → ℕ
register palette n = slice_index palette n % 4096

-- Hold and modify (HAM). The state is the colour shown. The code's low four bits are d. Its high two bits choose: 0 shows register d, 1 sets blue to d, 2 sets red, 3 sets green.
abbrev pub modified : Ham → ℕ → ℕ → ℕ
modified h colour code =
    let d = code % 16 in
    cond (code / 16 == 0) (register h.registers d)
    (cond (code / 16 == 1) (colour_of (red_of colour) (green_of colour) d)
    (cond (code / 16 == 2) (colour_of d (green_of colour) (blue_of colour))
    (colour_of (red_of colour) d (blue_of colour))))

abbrev pub ham_meaning : Ham → Meaning
ham_meaning h = record {
  states = 4096;
  codes = 64;
  start = register h.registers 0;
  step = λ s c. cond (nat_lt s 4096 && nat_lt c 64) (Some (modified h s c)) None;
  shown = λ s. cond (nat_lt s 4096) s 0;
  holds = λ c. nat_le 16 c && nat_lt c 64;
}

-- each level divided by 2, the fraction dropped
abbrev pub half_of : ℕ → ℕ
half_of colour = colour_of (red_of colour / 2) (green_of colour / 2) (blue_of colour / 2)

-- Extra-Half-Brite. The state is the last code.
abbrev pub half_brite_meaning : HalfBrite → Meaning
half_brite_meaning e = record {
  states = 64;
  codes = 64;
  start = 0;
  step = λ s c. cond (nat_lt s 64 && nat_lt c 64) (Some c) None;
  shown = λ s. cond (nat_lt s 32) (register e.registers s) (cond (nat_lt s 64) (half_of (register e.registers (s - 32))) 0);
  holds = λ c. false;
}

-- Fill mode. State n shows entry n. Code 0 stays and holds, but has no next state from state 0; each other code leads to the state of its number.
abbrev pub fill_meaning : Fill → Meaning
fill_meaning f = record {
  states = 16;
  codes = 16;
  start = 0;
  step = λ s c. cond (nat_lt s 16 && nat_lt c 16) (cond (c == 0) (cond (s == 0) None (Some s)) (Some c)) None;
  shown = λ s. cond (nat_lt s 16) (register f.entries s) 0;
  holds = λ c. (c == 0);
}
