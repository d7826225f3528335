-- What the store told, and what follows for the status.
use Rattle.std.proofs.Common.{◌≡◌, ℕ, List, [], ◌∷◌, Option, Some, None, option_map, refl, sym, ap, subst, ◌∙◌}
use Rattle.std.specs.Prelude.{IfSome, Ok}
use Rattle.tis_base.specs.Outside.{Texts, text_at, with_text}
use Rattle.tis_cli.specs.declared.status.Refusal.TheVariants.{NotThisForm}
use Rattle.net_column.specs.declared.error.FormError.{FormError}
use Rattle.net_column.specs.declared.error.FormError.TheVariants as unread
use Rattle.tis_cli.specs.Statuses.{form_status}
use Rattle.tis_cli.specs.Answers.{Refuses, Makes, AllDone}
use Rattle.tis_cli.specs.Commands.{Compile, IsCompiled}
use Rattle.net_tree.specs.Tree.{Net}
use Rattle.net_rules.specs.Numbers.{numbered}
use Rattle.net_column.specs.Form.{HasForm}
use Rattle.net_column.specs.Compiled.{compiled}
use Rattle.tis_save.specs.Writing.{save_text}
use Rattle.tis_save.specs.Reading.{save_of}
use Rattle.tis_cli.specs.Outcomes.{texts_under, with_first, IsAnswered, Explains}
use Rattle.tis_cli.specs.declared.status.Status.TheVariants.{Done, Refused}
use Rattle.net_column.specs.Carries.{Carries}

-- what a store told of its texts, where it told them
pub told_is : (told : Option Texts) (P : Texts → Type 0) → IfSome told P → (texts : Texts) → told ≡ Some texts → P texts
told_is None P h texts is = absurd cc
told_is (Some other) P h texts is = let same : other ≡ texts = cc in subst P same h

-- one text that is there
one_stands : (texts : Texts) (name text : List ℕ) → text_at texts name ≡ Some text → texts_under texts (name ∷ []) ≡ Some (text ∷ [])
one_stands texts name text stands = ap (λ (first : Option (List ℕ)). with_first first (Some [])) stands

-- and one that isn't
pub one_missing : (texts : Texts) (name : List ℕ) → text_at texts name ≡ None → texts_under texts (name ∷ []) ≡ None
one_missing texts name none = ap (λ (first : Option (List ℕ)). with_first first (Some [])) none

-- the save of a network is all that is promised of it
compiled_as_promised : (text bytes : List ℕ) (net : Net) → HasForm text net → bytes ≡ save_text (compiled net) → save_of bytes net.tiles ≡ Ok (compiled net) → Carries (compiled net) (numbered net) → IsCompiled (text ∷ []) bytes
compiled_as_promised text bytes net of written reads_back carries =
    record {
      text = text;
      net = net;
      is_text = refl;
      is_net = of;
      saved = written;
      reads_back = reads_back;
      carries = carries;
    }

module _ (told : Option Texts) (name save text seen : List ℕ) (fetched : IfSome told (λ texts. text_at texts name ≡ Some text)) (same : seen ≡ text) where
  -- the text under the name of the network
  stands : (texts : Texts) → told ≡ Some texts → texts_under texts (name ∷ []) ≡ Some (text ∷ [])
  stands texts is = one_stands texts name text (told_is told (λ (t : Texts). text_at t name ≡ Some text) fetched texts is)

  -- a text that was fetched and is no network is refused, and nothing has changed
  refusal_explained : ((net : Net) → HasForm seen net → ⊥) → (new : Option Texts) → new ≡ told → (written : Option (List ℕ)) (texts : Texts) → told ≡ Some texts →
      IsAnswered (Compile name save) texts written (Refused NotThisForm) (record { texts = new; written = written })
  refusal_explained none new stayed written texts is =
      record {
        found = text ∷ [];
        answer = Refuses NotThisForm;
        stand = stands texts is;
        comes = (λ net of. none net (subst (λ (t : List ℕ). HasForm t net) (sym same) of), refl);
        status_is = refl;
        arrives = (stayed ∙ is, refl);
        promised = tt;
      }

  -- a text that was fetched and isn't read as a network
  pub unread_explained : (new : Option Texts) → new ≡ told → (written : Option (List ℕ)) (error : FormError) → (error ≡ unread.NotThisForm → (net : Net) → HasForm seen net → ⊥) →
      Explains (Compile name save) told written (form_status error) (record { texts = new; written = written })
  unread_explained new stayed written unread.NotThisForm none = refusal_explained (none refl) new stayed written
  unread_explained new stayed written unread.NoMemory none = tt

  -- a text that was fetched and is a network is compiled: its save was kept
  pub saved_explained : (between new : Option Texts) (bytes : List ℕ) (net : Net) → HasForm seen net → bytes ≡ save_text (compiled net) → save_of bytes net.tiles ≡ Ok (compiled net) → Carries (compiled net) (numbered net) → between ≡ told → new ≡ option_map (λ texts. with_text texts save bytes) between →
      (written : Option (List ℕ)) (texts : Texts) → told ≡ Some texts → IsAnswered (Compile name save) texts written Done (record { texts = new; written = written })
  saved_explained between new bytes net of is_save reads_back carries stayed kept written texts is =
      let is_net : HasForm text net = subst (λ (t : List ℕ). HasForm t net) same of in
      record {
        found = text ∷ [];
        answer = Makes AllDone bytes;
        stand = stands texts is;
        comes = (net, is_net, refl, is_save);
        status_is = refl;
        arrives = (kept ∙ ap (option_map (λ (t : Texts). with_text t save bytes)) (stayed ∙ is), refl);
        promised = compiled_as_promised text bytes net is_net is_save reads_back carries;
      }
