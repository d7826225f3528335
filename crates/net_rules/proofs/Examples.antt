-- The rules and the streams, worked out by hand on small networks.
use Rattle.std.proofs.Common.{◌≡◌, ℕ, ◌+◌, ◌==◌, ℤ, pos, negsuc, List, [], ◌∷◌, ◌++◌, replicate, Some, None, refl}
use Rattle.std.specs.Prelude.{codes, if◌then◌else◌, ◌*◌}
use Rattle.tis_base.specs.declared.tiles.TileKind.TheVariants.{Compute}
use Rattle.net_tree.specs.declared.tree.Var.TheVariants.{X, Y}
use Rattle.net_tree.specs.declared.tree.Test.TheVariants.{Zero, NotZero, Positive}
use Rattle.net_tree.specs.Tree.{Name, Statement, Get, GetAdd, Put, PutNumber, Move, Add, Sub, Double, Swap, If, While, Count, Block, Empty, Then, PortLine, ChannelLine, ProcessText, Net}
use Rattle.net_rules.specs.Numbers.{numbered}
use Rattle.net_rules.specs.Rules.{Unknown, Repeated, SamePlace, ReadTwice, WrittenTwice, CounterChanged, Unread, Unwritten, ReadBeforeWritten, NoSureRead, LoopWithoutRead, JoinAfterSplit, first_broken}
use Rattle.net_rules.specs.Kahn.{Inputs, kahn_at, steps, bound}
use Rattle.net_rules.specs.Process.{cost}

-- ---- networks

abbrev a : Name
a = codes "a"

abbrev b : Name
b = codes "b"

abbrev c : Name
c = codes "c"

abbrev d : Name
d = codes "d"

abbrev o : Name
o = codes "o"

-- a port, a channel and a process on these lines; where they stand on the grid plays no part here
abbrev port : Name → ℕ → ℕ → PortLine
port name position line = record { name = name; position = position; via = None; line = line }

abbrev channel : Name → ℕ → ChannelLine
channel name line = record { name = name; via = None; line = line }

abbrev process : Name → ℕ → Block Name → ProcessText
process name line body = record { name = name; at = None; body = body; line = line }

abbrev network : List PortLine → List PortLine → List ChannelLine → List ProcessText → Net
network inputs outputs channels processes =
    record {
      version = 1;
      tiles = record { shape = record { columns = 4; rows = 3 }; kinds = replicate 12 Compute };
      inputs = inputs;
      outputs = outputs;
      channels = channels;
      processes = processes;
    }

-- statements on lines one after the other, from a line on; none of them has blocks
abbrev in_lines : ℕ → List (Statement Name) → Block Name
in_lines line [] = Empty
in_lines line (statement ∷ rest) = Then line statement (in_lines (line + 1) rest)

-- one process from one input to one output
abbrev one_process : Block Name → Net
one_process body = network (port a 1 3 ∷ []) (port o 1 4 ∷ []) [] (process (codes "p") 5 body ∷ [])

abbrev of_lines : List (Statement Name) → Net
of_lines body = one_process (in_lines 6 body)

-- ---- rules

good : first_broken (of_lines (Move a o ∷ [])) ≡ None
good = refl

not_there : first_broken (of_lines (Move b o ∷ [])) ≡ Some (Unknown 6)
not_there = refl

-- an output can't be read, nor an input written
not_read_so : first_broken (of_lines (Get o X ∷ Put o X ∷ [])) ≡ Some (Unknown 6)
not_read_so = refl

not_written_so : first_broken (of_lines (Get a X ∷ Put a X ∷ [])) ≡ Some (Unknown 7)
not_written_so = refl

one_name : first_broken (network (port a 1 3 ∷ []) (port a 1 4 ∷ []) [] (process (codes "p") 5 (in_lines 6 (Move a o ∷ [])) ∷ [])) ≡ Some (Repeated 4)
one_name = refl

-- a process may have the name of an input
other_space : first_broken (network (port a 1 3 ∷ []) (port o 1 4 ∷ []) [] (process a 5 (in_lines 6 (Move a o ∷ [])) ∷ [])) ≡ None
other_space = refl

one_place : first_broken (network (port a 1 3 ∷ port b 1 4 ∷ []) (port o 1 5 ∷ []) [] (process (codes "p") 6 (in_lines 7 (Move a o ∷ [])) ∷ [])) ≡ Some (SamePlace 4)
one_place = refl

-- lines decide, and not the lists: the output of line 3 comes first
by_line_first : first_broken (network (port a 1 4 ∷ []) (port a 1 3 ∷ []) [] []) ≡ Some (Repeated 4)
by_line_first = refl

abbrev beside : Statement Name → Net
beside statement = network (port a 1 3 ∷ []) (port o 1 4 ∷ []) [] (process (codes "p") 5 (in_lines 6 (Move a o ∷ [])) ∷ process (codes "q") 8 (in_lines 9 (statement ∷ [])) ∷ [])

two_readers : first_broken (beside (Get a X)) ≡ Some (ReadTwice 9)
two_readers = refl

two_writers : first_broken (beside (PutNumber o (pos 1))) ≡ Some (WrittenTwice 9)
two_writers = refl

-- one process may read and write a name as often as it likes
one_twice : first_broken (of_lines (Get a X ∷ GetAdd a X ∷ Put o X ∷ Put o X ∷ [])) ≡ None
one_twice = refl

abbrev counting : Statement Name → Net
counting statement = one_process (Then 6 (Get a X) (Then 7 (Count X (Then 8 statement Empty)) (Then 10 (Put o X) Empty)))

counter_added : first_broken (counting (Add X (pos 0))) ≡ Some (CounterChanged 8)
counter_added = refl

counter_swapped : first_broken (counting Swap) ≡ Some (CounterChanged 8)
counter_swapped = refl

counter_counted : first_broken (counting (Count X Empty)) ≡ Some (CounterChanged 8)
counter_counted = refl

other_counted : first_broken (counting (Count Y Empty)) ≡ None
other_counted = refl

not_read : first_broken (of_lines (PutNumber o (pos 1) ∷ [])) ≡ Some (Unread 3)
not_read = refl

not_written : first_broken (of_lines (Get a X ∷ [])) ≡ Some (Unwritten 4)
not_written = refl

too_early : first_broken (network (port a 1 3 ∷ []) (port o 1 4 ∷ []) (channel c 5 ∷ []) (process (codes "p") 6 (in_lines 7 (Get c X ∷ Put o X ∷ [])) ∷ process (codes "q") 10 (in_lines 11 (Move a c ∷ [])) ∷ [])) ≡ Some (ReadBeforeWritten 7)
too_early = refl

read_by_chance : first_broken (one_process (Then 6 (If X Zero (Then 7 (Get a X) Empty) Empty) (Then 9 (Put o X) Empty))) ≡ Some (NoSureRead 0)
read_by_chance = refl

read_both_ways : first_broken (one_process (Then 6 (If X Zero (Then 7 (Get a X) Empty) (Then 9 (Get a Y) Empty)) (Then 11 (Put o X) Empty))) ≡ None
read_both_ways = refl

idle_loop : first_broken (one_process (Then 6 (Get a X) (Then 7 (While X Positive (Then 8 (Sub X (pos 1)) Empty)) (Then 10 (Put o X) Empty)))) ≡ Some (LoopWithoutRead 7)
idle_loop = refl

-- one process splits what it reads, and the next one joins it
abbrev split_and_join : Net
split_and_join =
    network (port a 1 3 ∷ []) (port o 1 4 ∷ []) (channel c 5 ∷ channel d 6 ∷ []) (
    process (codes "p") 7 (in_lines 8 (Get a X ∷ Put c X ∷ Put d X ∷ [])) ∷
    process (codes "q") 12 (in_lines 13 (Get c X ∷ GetAdd d X ∷ Put o X ∷ [])) ∷
    [])

joined : first_broken split_and_join ≡ Some (JoinAfterSplit 1)
joined = refl

-- what a process writes that reads a spread channel is spread too: the joint is two processes away from the split
abbrev far_joint : Net
far_joint =
    network (port a 1 3 ∷ port b 2 4 ∷ []) (port o 1 5 ∷ port (codes "s") 2 6 ∷ []) (channel c 7 ∷ channel d 8 ∷ []) (
    process (codes "p") 9 (in_lines 10 (Get a X ∷ Put c X ∷ Put (codes "s") X ∷ [])) ∷
    process (codes "q") 14 (in_lines 15 (Move c d ∷ [])) ∷
    process (codes "r") 17 (in_lines 18 (Get d X ∷ GetAdd b X ∷ Put o X ∷ [])) ∷
    [])

far_joined : first_broken far_joint ≡ Some (JoinAfterSplit 2)
far_joined = refl

-- ---- streams

-- these values above column 1
abbrev above : List ℤ → Inputs
above values position = if position == 1 then values else []

-- what one process sends below column 1
abbrev sent : Net → List ℤ → List ℤ
sent net values = kahn_at (numbered net) (above values) 1

moves : sent (of_lines (Move a o ∷ [])) (pos 5 ∷ pos 7 ∷ []) ≡ pos 5 ∷ pos 7 ∷ []
moves = refl

held_above : sent (of_lines (Get a X ∷ Add X (pos 1) ∷ Put o X ∷ [])) (pos 999 ∷ []) ≡ pos 999 ∷ []
held_above = refl

held_below : sent (of_lines (Get a X ∷ Sub X (pos 1) ∷ Put o X ∷ [])) (negsuc 998 ∷ []) ≡ negsuc 998 ∷ []
held_below = refl

doubled_twice : sent (of_lines (Get a X ∷ Double X ∷ Double X ∷ Put o X ∷ [])) (negsuc 998 ∷ pos 400 ∷ pos 3 ∷ []) ≡ negsuc 998 ∷ pos 999 ∷ pos 12 ∷ []
doubled_twice = refl

-- a sequence that is ended by 0
ended_by_zero : sent (one_process (Then 6 (Get a X) (Then 7 (While X NotZero (Then 8 (Put o X) (Then 9 (Get a X) Empty))) (Then 11 (PutNumber o (negsuc 0)) Empty)))) (pos 3 ∷ pos 4 ∷ pos 0 ∷ pos 5 ∷ []) ≡ pos 3 ∷ pos 4 ∷ negsuc 0 ∷ pos 5 ∷ []
ended_by_zero = refl

-- as many times as the value says, and then what is left of it
counted : sent (one_process (Then 6 (Get a X) (Then 7 (Count X (Then 8 (PutNumber o (pos 7)) Empty)) (Then 10 (Put o X) Empty)))) (pos 999 ∷ pos 0 ∷ negsuc 4 ∷ []) ≡ replicate 999 (pos 7) ++ pos 0 ∷ pos 0 ∷ negsuc 4 ∷ []
counted = refl

-- a test on y
marked : sent (one_process (Then 6 (Get a Y) (Then 7 (If Y Positive (Then 8 (PutNumber o (pos 1)) Empty) Empty) (Then 10 (Put o Y) Empty)))) (pos 3 ∷ negsuc 1 ∷ []) ≡ pos 1 ∷ pos 3 ∷ negsuc 1 ∷ []
marked = refl

-- the variables stay from round to round: a running sum in y
summed : sent (of_lines (GetAdd a Y ∷ Put o Y ∷ [])) (pos 500 ∷ pos 400 ∷ pos 300 ∷ []) ≡ pos 500 ∷ pos 900 ∷ pos 999 ∷ []
summed = refl

exchanged : sent (of_lines (Get a X ∷ Swap ∷ Put o X ∷ [])) (pos 1 ∷ pos 2 ∷ pos 3 ∷ []) ≡ pos 0 ∷ pos 1 ∷ pos 2 ∷ []
exchanged = refl

-- three inputs by turns: the process waits for the third for ever
abbrev by_turns : Net
by_turns =
    network (port a 1 3 ∷ port b 0 4 ∷ port c 2 5 ∷ []) (port o 1 6 ∷ []) []
    (process (codes "p") 7 (in_lines 8 (Get a X ∷ Put o X ∷ Get b X ∷ Put o X ∷ Get c X ∷ Put o X ∷ [])) ∷ [])

abbrev two_inputs : Inputs
two_inputs position = if position == 1 then pos 1 ∷ pos 2 ∷ pos 3 ∷ [] else (if position == 0 then pos 100 ∷ [] else [])

taken_by_turns : kahn_at (numbered by_turns) two_inputs 1 ≡ pos 1 ∷ pos 100 ∷ []
taken_by_turns = refl

-- two processes one behind the other
abbrev in_a_row : Net
in_a_row =
    network (port a 1 3 ∷ []) (port o 1 4 ∷ []) (channel c 5 ∷ []) (
    process (codes "p") 6 (in_lines 7 (Get a X ∷ Double X ∷ Put c X ∷ [])) ∷
    process (codes "q") 11 (in_lines 12 (Get c X ∷ Sub X (pos 1) ∷ Put o X ∷ [])) ∷
    [])

follow : sent in_a_row (pos 5 ∷ negsuc 599 ∷ []) ≡ pos 9 ∷ negsuc 998 ∷ []
follow = refl

-- a round of three statements is four steps; the last round waits after two
steps_taken : steps (numbered in_a_row) (above (pos 5 ∷ negsuc 599 ∷ [])) ≡ 20
steps_taken = refl

steps_allowed : bound (numbered in_a_row) (above (pos 5 ∷ negsuc 599 ∷ [])) ≡ 128 * 12 * (3 * 8 + 3 * 8 + 12)
steps_allowed = refl

loop_costs : cost (Then 1 (While X NotZero (Then 2 (Count X (Then 3 Swap Empty)) Empty)) Empty) ≡ 2 + 2 * (2 + 2 * (1 + 999 * 2))
loop_costs = refl
