use Rattle.std.proofs.Common.{subst, sym, List}
use Rattle.std.specs.List.{All}
use Rattle.lua_store.specs.declared.value.SmallValue.{SmallValue}
use Rattle.lua_store.specs.Values.{IsHeld}
use Rattle.lua_state.proofs.Sound.{all_below, with_values}
use Rattle.lua_state.proofs.held.HeldState.pop.Goals as goal

pub returns-clause-sound : goal.returns-clause-sound
returns-clause-sound c =
    let texts = c.args.self.now.texts in
    with_values c.args.self.now c.pop_or.new.self c.requires
    (subst (λ (vs : List SmallValue). All (IsHeld texts) vs) (sym c.pop_or.ensures.rest) (all_below (IsHeld texts) c.args.self.now.values c.requires.values))
