-- Functions that are put under their names one after the other.
use Rattle.std.proofs.Common.{◌≡◌, ◌∙◌, ℕ, Bool, true, false, cond, List, [], ◌∷◌, Option, Some, None, refl, sym, ap, Bor}
use Rattle.std.specs.Map.{lookup}
use Rattle.std.specs.Option.{option_map, option_or}
use Rattle.std.specs.Str.{bytes_eq}
use Rattle.lua_tree.specs.declared.tree.Item.{Item}
use Rattle.lua_tree.specs.declared.tree.Item.TheVariants as item
use Rattle.lua_machine.specs.Functions as machine
use Rattle.lua_machine.specs.Functions.{function_of}
use Rattle.lua_machine.specs.Tree.{items_of, item_of}
use Rattle.lua_frames.specs.declared.functions.Function.{Function}
use Rattle.lua_frames.specs.FunctionTables.{under}
use Rattle.lua_frames.specs.Parts.{function_in, named}

-- what stands under each name is behind what the items that are left have
abbrev pub Behind : List Item → List Item → List (Bor (List ℕ) × Function) → Type 0
Behind all left entries = (name : List ℕ) → option_or (function_of (items_of left) name) (under entries name) ≡ function_of (items_of all) name

or_none : (u : Option machine.Function) → option_or u None ≡ u
or_none None = refl
or_none (Some f) = refl

-- all are left at first
pub none_yet : (all : List Item) → Behind all all []
none_yet all = λ name. or_none (function_of (items_of all) name)

abbrev or_else : Option machine.Function → Option machine.Function → Option machine.Function
or_else (Some later) earlier = Some later
or_else None earlier = earlier

moved : (later first held : Option machine.Function) → option_or (or_else later first) held ≡ option_or later (option_or first held)
moved None first held = refl
moved (Some f) first held = refl

first_moved : (x : Item) (others : List Item) (name : List ℕ) (held : Option machine.Function) →
    option_or (function_of (items_of (x ∷ others)) name) held ≡ option_or (function_of (items_of others) name) (option_or (named name (item_of x)) held)
first_moved (item.Function called params body) others name held = moved (function_of (items_of others) name) (named name (item_of (item.Function called params body))) held
first_moved (item.Assign called of) others name held = moved (function_of (items_of others) name) None held

-- one item more is put
pub one_more : (all : List Item) (x : Item) (others : List Item) (old new : List (Bor (List ℕ) × Function)) → Behind all (x ∷ others) old → ((name : List ℕ) → under new name ≡ option_or (named name (item_of x)) (under old name)) → Behind all others new
one_more all x others old new behind put = λ name. ap (option_or (function_of (items_of others) name)) (put name) ∙ sym (first_moved x others name (under old name)) ∙ behind name

-- a key without a place, for a name that is only compared
abbrev pub key_of : List ℕ → Bor (List ℕ)
key_of name = record { ref_ptr = (0, 0); now = name }

of_two : (b : Bool) (f : Function) (held : Option Function) → option_map function_in (cond b (Some f) held) ≡ option_or (cond b (Some (function_in f)) None) (option_map function_in held)
of_two true f held = refl
of_two false f held = refl

-- what is known of each key is known of each name
pub put : (old new : List (Bor (List ℕ) × Function)) (called : List ℕ) (f : Function) → ((k : Bor (List ℕ)) → lookup (λ q. bytes_eq k.now q.now) new ≡ cond (bytes_eq called k.now) (Some f) (lookup (λ q. bytes_eq k.now q.now) old)) →
    (name : List ℕ) → under new name ≡ option_or (cond (bytes_eq called name) (Some (function_in f)) None) (under old name)
put old new called f is name = ap (option_map function_in) (is (key_of name)) ∙ of_two (bytes_eq called name) f (lookup (λ q. bytes_eq name q.now) old)
