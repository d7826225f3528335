use Rattle.std.proofs.Common.{◌≤◌, vec_len}
use Rattle.std.specs.Io.KnownBytes.{Consumes}
use Rattle.tis_base.proofs.transfer.read_all.Given as goal

-- what was read is no more than 16 MiB, and is what the reader gave
abbrev pub invariant-loop : goal.invariant-loop
invariant-loop g l = (vec_len l.bytes ≤ 16777216) × Consumes (g.F.Read.remaining l.initial.file) (g.F.Read.remaining l.file) l.bytes.items
