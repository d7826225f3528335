use Rattle.std.proofs.Common.{◌∙◌, ap, sym, subst}
use Rattle.lua_store.specs.Values.{Texts, AreApart}
use Rattle.lua_state.specs.Held.{IsSound, store_of}
use Rattle.lua_state.proofs.Growing.{store_more, sound_more}
use Rattle.lua_state.proofs.held.HeldState.hold.Goals as goal

pub returns-clause-same : goal.returns-clause-same
returns-clause-same c =
    ap (λ (texts : Texts). store_of (record c.args.self.now { texts = texts })) c.in_ok-at.ensures.held ∙ store_more c.args.self.now c.args.bytes.now c.requires c.texts_may_grow.ensures.tables

pub returns-clause-sound : goal.returns-clause-sound
returns-clause-sound c =
    subst (λ (texts : Texts). IsSound (record c.args.self.now { texts = texts })) (sym c.in_ok-at.ensures.held)
    (sound_more c.args.self.now c.args.bytes.now c.requires (subst AreApart c.in_ok-at.ensures.held c.hold.ensures.apart) c.texts_may_grow.ensures.held)
