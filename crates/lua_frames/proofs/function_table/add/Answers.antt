use Rattle.std.proofs.Common.{◌∙◌, sym, ap, ℕ, List}
use Rattle.std.specs.Option.{option_or}
use Rattle.lua_machine.specs.Tree as t
use Rattle.lua_machine.specs.Tree.{block_of, item_of}
use Rattle.lua_frames.specs.FunctionTables.{under}
use Rattle.lua_frames.specs.Parts.{named}
use Rattle.lua_frames.proofs.Gathering.{put}
use Rattle.lua_frames.proofs.function_table.add.Goals as goal

pub returns-in_ok-insert : goal.returns-in_ok-insert
returns-in_ok-insert c =
    let old = c.args.by_name.now.entries in
    let body = block_of c.in-Function.body in
    λ (name : List ℕ). put old c.insert.new.self.entries c.bytes.result.now _ c.in_ok-insert.ensures.updates.0 name
    ∙ ap (λ (called : List ℕ). option_or (named name (t.Function called c.as_slice.result.now body)) (under old name)) c.bytes.ensures
    ∙ ap (λ (params : List (List ℕ)). option_or (named name (t.Function c.in-Function.name params body)) (under old name)) c.as_slice.ensures
    ∙ ap (λ x. option_or (named name (item_of x)) (under old name)) (sym c.in-Function.is)
