-- A list begins with a call, or with none, as its marked form does.
use Rattle.std.proofs.Common.{◌≡◌, refl, ap, subst, ◌∙◌, Bool, true, false, if◌then◌else◌}
use Rattle.std.specs.Prelude.{Option, Some, None, ◌&&◌}
use Rattle.std.proofs.lemmas.Bool.{and_from}
use Rattle.tt_data.specs.Forest.{Forest, empty, leaf, group}
use Rattle.tt_data.specs.declared.delimiter.Delimiter.{Delimiter}
use Rattle.tt_data.specs.declared.leaf.Ident.{Ident}
use Rattle.tt_data.specs.declared.leaf.Leaf.{Leaf}
use Rattle.tt_data.specs.declared.leaf.Leaf.TheVariants as as_leaf
use Rattle.tt_data.specs.declared.leaf.Punct.{Punct}
use Rattle.expander_model.specs.declared.call.Call.{Call}
use Rattle.expander_model.specs.CallSteps.{bare_call, call_behind_colons, crate_call}
use Rattle.expander_model.specs.Calls.{bare, from_crate, other, Marked, token, inside, call, is_colons, is_root, is_bang_group, mark_leaf, marked}
use Rattle.small_grammar.specs.Text.{◌>>◌}
use Rattle.bridge.specs.Text.{is_char, is_visible}

-- ---- a test that was passed on the way to an answer

passed : {A : Type 0} (t : Bool) (o : Option A) (x : A) → (t >> o) ≡ Some x → (t ≡ true) × (o ≡ Some x)
passed true o x e = (refl, e)
passed false o x e = cc

-- no call where a step after a passed test gives none
absurd_none : {P : Type 0} (t : Bool) (c : Call) → (t >> None) ≡ Some c → P
absurd_none true c e = cc
absurd_none false c e = cc

-- ---- a bare call

pub record IsBare (f : Forest) (c : Call) : Type 0 where
  pub bang : Punct
  pub brackets : Delimiter
  pub is : f ≡ leaf (as_leaf.Ident c.name) (leaf (as_leaf.Punct bang) (group brackets c.argument c.rest))
  pub group_is : c.from_group ≡ group brackets c.argument c.rest
  pub test : is_bang_group bang brackets ≡ true

pub is_bare : (f : Forest) (c : Call) → bare_call f ≡ Some c → IsBare f c
is_bare (leaf (as_leaf.Ident i) (leaf (as_leaf.Punct p) (group d a r))) c e =
    let bang = passed (is_char "!" p) (is_visible d.kind >> Some (record { name = i; from_group = group d a r; argument = a; rest = r })) c e in
    let seen = passed (is_visible d.kind) (Some (record { name = i; from_group = group d a r; argument = a; rest = r })) c bang.1 in
    let same : record { name = i; from_group = group d a r; argument = a; rest = r } ≡ c = cc (seen.1) in
    record {
      bang = p;
      brackets = d;
      is = ap (λ (x : Call). leaf (as_leaf.Ident x.name) (leaf (as_leaf.Punct p) (group d x.argument x.rest))) same;
      group_is = subst (λ (x : Call). x.from_group ≡ group d x.argument x.rest) same refl;
      test = and_from _ _ bang.0 seen.0;
    }
is_bare (leaf (as_leaf.Ident i) (leaf (as_leaf.Punct p) (leaf l r))) c e = absurd_none (is_char "!" p) c e
is_bare (leaf (as_leaf.Ident i) (leaf (as_leaf.Punct p) empty)) c e = absurd_none (is_char "!" p) c e
is_bare (leaf (as_leaf.Ident i) (leaf (as_leaf.Ident j) r)) c e = cc
is_bare (leaf (as_leaf.Ident i) (leaf (as_leaf.Literal j) r)) c e = cc
is_bare (leaf (as_leaf.Ident i) (group d a r)) c e = cc
is_bare (leaf (as_leaf.Ident i) empty) c e = cc
is_bare (leaf (as_leaf.Punct p) r) c e = cc
is_bare (leaf (as_leaf.Literal p) r) c e = cc
is_bare (group d a r) c e = cc
is_bare empty c e = cc

-- ---- a call behind a `::`

pub record IsBehind (f : Forest) (c : Call) : Type 0 where
  pub first : Punct
  pub second : Punct
  pub after : Forest
  pub is : f ≡ leaf (as_leaf.Punct first) (leaf (as_leaf.Punct second) after)
  pub colons : is_colons first second ≡ true
  pub call : IsBare after c

pub is_behind : (f : Forest) (c : Call) → call_behind_colons f ≡ Some c → IsBehind f c
is_behind (leaf (as_leaf.Punct p) (leaf (as_leaf.Punct q) g)) c e =
    let colons = passed (is_colons p q) (bare_call g) c e in
    record { first = p; second = q; after = g; is = refl; colons = colons.0; call = is_bare g c colons.1 }
is_behind (leaf (as_leaf.Punct p) (leaf (as_leaf.Ident j) g)) c e = cc
is_behind (leaf (as_leaf.Punct p) (leaf (as_leaf.Literal j) g)) c e = cc
is_behind (leaf (as_leaf.Punct p) (group d a r)) c e = cc
is_behind (leaf (as_leaf.Punct p) empty) c e = cc
is_behind (leaf (as_leaf.Ident i) r) c e = cc
is_behind (leaf (as_leaf.Literal i) r) c e = cc
is_behind (group d a r) c e = cc
is_behind empty c e = cc

-- ---- a call with its `$crate ::`

pub record IsOfCrate (f : Forest) (c : Call) : Type 0 where
  pub crate : Ident
  pub after : Forest
  pub is : f ≡ leaf (as_leaf.Ident crate) after
  pub test : is_root crate ≡ true
  pub found : call_behind_colons after ≡ Some c
  pub call : IsBehind after c

pub is_of_crate : (f : Forest) (c : Call) → crate_call f ≡ Some c → IsOfCrate f c
is_of_crate (leaf (as_leaf.Ident i) g) c e =
    let test = passed (is_root i) (call_behind_colons g) c e in
    record { crate = i; after = g; is = refl; test = test.0; found = test.1; call = is_behind g c test.1 }
is_of_crate (leaf (as_leaf.Punct i) r) c e = cc
is_of_crate (leaf (as_leaf.Literal i) r) c e = cc
is_of_crate (group d a r) c e = cc
is_of_crate empty c e = cc

-- ---- the marks that begin with a call

pub marked_bare : (f : Forest) (c : Call) (b : IsBare f c) → marked f ≡ call bare c.name b.bang b.brackets (marked c.argument) (marked c.rest)
marked_bare f c b = rw (b.is) (rw (b.test) refl)

pub marked_behind : (f : Forest) (c : Call) (b : IsBehind f c)
    → marked f ≡ call (other b.first b.second) c.name b.call.bang b.call.brackets (marked c.argument) (marked c.rest)
marked_behind f c b =
    ap marked b.is ∙ ap (λ m. mark_leaf (as_leaf.Punct b.first) (mark_leaf (as_leaf.Punct b.second) m)) (marked_bare b.after c b.call) ∙ rw (b.colons) refl

pub marked_of_crate : (f : Forest) (c : Call) (b : IsOfCrate f c)
    → marked f ≡ call (from_crate b.crate b.call.first b.call.second) c.name b.call.call.bang b.call.call.brackets (marked c.argument) (marked c.rest)
marked_of_crate f c b =
    ap marked b.is ∙ ap (mark_leaf (as_leaf.Ident b.crate)) (marked_behind b.after c b.call) ∙ rw (b.test) refl

-- ---- no call at the beginning

none_passed : (t u : Bool) (x : Call) → (t >> (u >> Some x)) ≡ None → (t && u) ≡ false
none_passed true true x e = cc
none_passed true false x e = refl
none_passed false u x e = refl

-- marks that begin with `!` and a visible group
bang_first : Marked → Bool
bang_first (token (as_leaf.Punct bang) (inside b a r)) = is_bang_group bang b
bang_first _ = false

-- with a call that begins with its name, or with a `::` before it
bare_first : Marked → Bool
bare_first (call bare name bang b a r) = true
bare_first _ = false

other_first : Marked → Bool
other_first (call (other p q) name bang b a r) = true
other_first _ = false

-- with a colon and a call, behind another colon
colon_first : Punct → Marked → Bool
colon_first p (token (as_leaf.Punct q) (call bare name bang b a r)) = is_colons p q
colon_first p _ = false

mark_ident : (i : Ident) (m : Marked) → bang_first m ≡ false → (other_first m && is_root i) ≡ false → mark_leaf (as_leaf.Ident i) m ≡ token (as_leaf.Ident i) m
unfolding bang_first other_first
mark_ident i (token (as_leaf.Punct bang) (inside b a r)) e d = rw e refl
mark_ident i (call (other p q) name bang b a r) e d = rw d refl
mark_ident i m e d = refl

mark_punct : (p : Punct) (m : Marked) → colon_first p m ≡ false → mark_leaf (as_leaf.Punct p) m ≡ token (as_leaf.Punct p) m
unfolding colon_first
mark_punct p (token (as_leaf.Punct q) (call bare name bang b a r)) e = rw e refl
mark_punct p m e = refl

bang_ident : (i : Ident) (m : Marked) → bang_first (mark_leaf (as_leaf.Ident i) m) ≡ false
unfolding bang_first
bang_ident i (token (as_leaf.Punct bang) (inside b a r)) =
    elim (is_bang_group bang b) as (λ t. bang_first (if t then call bare i bang b a r else token (as_leaf.Ident i) (token (as_leaf.Punct bang) (inside b a r))) ≡ false) [ true ↦ refl | false ↦ refl ]
bang_ident i (call (other p q) name bang b a r) =
    elim (is_root i) as (λ t. bang_first (if t then call (from_crate i p q) name bang b a r else token (as_leaf.Ident i) (call (other p q) name bang b a r)) ≡ false) [ true ↦ refl | false ↦ refl ]
bang_ident i m = refl

-- marks that do not begin with a group
is_no_group : Marked → Bool
is_no_group (inside b a r) = false
is_no_group _ = true

no_group : (l : Leaf) (m : Marked) → is_no_group (mark_leaf l m) ≡ true
unfolding is_no_group
no_group (as_leaf.Ident i) (token (as_leaf.Punct bang) (inside b a r)) =
    elim (is_bang_group bang b) as (λ t. is_no_group (if t then call bare i bang b a r else token (as_leaf.Ident i) (token (as_leaf.Punct bang) (inside b a r))) ≡ true) [ true ↦ refl | false ↦ refl ]
no_group (as_leaf.Ident i) (call (other p q) name bang b a r) =
    elim (is_root i) as (λ t. is_no_group (if t then call (from_crate i p q) name bang b a r else token (as_leaf.Ident i) (call (other p q) name bang b a r)) ≡ true) [ true ↦ refl | false ↦ refl ]
no_group (as_leaf.Punct p) (token (as_leaf.Punct q) (call bare name bang b a r)) =
    elim (is_colons p q) as (λ t. is_no_group (if t then call (other p q) name bang b a r else token (as_leaf.Punct p) (token (as_leaf.Punct q) (call bare name bang b a r))) ≡ true) [ true ↦ refl | false ↦ refl ]
no_group l m = refl

bang_punct : (p : Punct) (m : Marked) → is_no_group m ≡ true → bang_first (mark_leaf (as_leaf.Punct p) m) ≡ false
unfolding bang_first is_no_group
bang_punct p (inside b a r) h = cc
bang_punct p (token (as_leaf.Punct q) (call bare name bang b a r)) h =
    elim (is_colons p q) as (λ t. bang_first (if t then call (other p q) name bang b a r else token (as_leaf.Punct p) (token (as_leaf.Punct q) (call bare name bang b a r))) ≡ false) [ true ↦ refl | false ↦ refl ]
bang_punct p m h = refl

-- behind a name that begins no call
bang_none : (i : Ident) (rest : Forest) → bare_call (leaf (as_leaf.Ident i) rest) ≡ None → bang_first (marked rest) ≡ false
unfolding bang_first
bang_none i (leaf (as_leaf.Punct p) (group d a r)) e = none_passed _ _ _ e
bang_none i (leaf (as_leaf.Punct p) (leaf l r)) e = bang_punct p (mark_leaf l (marked r)) (no_group l (marked r))
bang_none i (leaf (as_leaf.Punct p) empty) e = refl
bang_none i (leaf (as_leaf.Ident j) r) e = bang_ident j (marked r)
bang_none i (leaf (as_leaf.Literal j) r) e = refl
bang_none i (group d a r) e = refl
bang_none i empty e = refl

bare_ident : (i : Ident) (m : Marked) → bang_first m ≡ false → bare_first (mark_leaf (as_leaf.Ident i) m) ≡ false
unfolding bang_first bare_first
bare_ident i (token (as_leaf.Punct bang) (inside b a r)) e = rw e refl
bare_ident i (call (other p q) name bang b a r) e =
    elim (is_root i) as (λ t. bare_first (if t then call (from_crate i p q) name bang b a r else token (as_leaf.Ident i) (call (other p q) name bang b a r)) ≡ false) [ true ↦ refl | false ↦ refl ]
bare_ident i m e = refl

bare_punct : (p : Punct) (m : Marked) → bare_first (mark_leaf (as_leaf.Punct p) m) ≡ false
unfolding bare_first
bare_punct p (token (as_leaf.Punct q) (call bare name bang b a r)) =
    elim (is_colons p q) as (λ t. bare_first (if t then call (other p q) name bang b a r else token (as_leaf.Punct p) (token (as_leaf.Punct q) (call bare name bang b a r))) ≡ false) [ true ↦ refl | false ↦ refl ]
bare_punct p m = refl

bare_none : (f : Forest) → bare_call f ≡ None → bare_first (marked f) ≡ false
unfolding bare_first
bare_none (leaf (as_leaf.Ident i) rest) e = bare_ident i (marked rest) (bang_none i rest e)
bare_none (leaf (as_leaf.Punct p) rest) e = bare_punct p (marked rest)
bare_none (leaf (as_leaf.Literal p) rest) e = refl
bare_none (group d a r) e = refl
bare_none empty e = refl

colon_punct : (p q : Punct) (m : Marked) → colon_first p (mark_leaf (as_leaf.Punct q) m) ≡ (is_colons p q && bare_first m)
unfolding colon_first bare_first
colon_punct p q (call bare name bang b a r) = elim (is_colons p q) as (λ t. t ≡ (t && true)) [ true ↦ refl | false ↦ refl ]
colon_punct p q (token (as_leaf.Punct s) (call bare name bang b a r)) =
    elim (is_colons q s) as (λ t. colon_first p (if t then call (other q s) name bang b a r else token (as_leaf.Punct q) (token (as_leaf.Punct s) (call bare name bang b a r))) ≡ (is_colons p q && false)) [
      | true ↦ elim (is_colons p q) as (λ t. false ≡ (t && false)) [ true ↦ refl | false ↦ refl ]
      | false ↦ elim (is_colons p q) as (λ t. false ≡ (t && false)) [ true ↦ refl | false ↦ refl ]
    ]
colon_punct p q m = elim (is_colons p q) as (λ t. false ≡ (t && false)) [ true ↦ refl | false ↦ refl ]

colon_ident : (p : Punct) (i : Ident) (m : Marked) → colon_first p (mark_leaf (as_leaf.Ident i) m) ≡ false
unfolding colon_first
colon_ident p i (token (as_leaf.Punct bang) (inside b a r)) =
    elim (is_bang_group bang b) as (λ t. colon_first p (if t then call bare i bang b a r else token (as_leaf.Ident i) (token (as_leaf.Punct bang) (inside b a r))) ≡ false) [ true ↦ refl | false ↦ refl ]
colon_ident p i (call (other s q) name bang b a r) =
    elim (is_root i) as (λ t. colon_first p (if t then call (from_crate i s q) name bang b a r else token (as_leaf.Ident i) (call (other s q) name bang b a r)) ≡ false) [ true ↦ refl | false ↦ refl ]
colon_ident p i m = refl

and_none : (t : Bool) (o : Option Call) (b : Bool) → (t >> o) ≡ None → (o ≡ None → b ≡ false) → (t && b) ≡ false
and_none true o b e h = h e
and_none false o b e h = refl

-- behind a punct that begins no `::` with a call
colon_none : (p : Punct) (rest : Forest) → call_behind_colons (leaf (as_leaf.Punct p) rest) ≡ None → colon_first p (marked rest) ≡ false
unfolding colon_first
colon_none p (leaf (as_leaf.Punct q) r) e = colon_punct p q (marked r) ∙ and_none (is_colons p q) (bare_call r) _ e (bare_none r)
colon_none p (leaf (as_leaf.Ident j) r) e = colon_ident p j (marked r)
colon_none p (leaf (as_leaf.Literal j) r) e = refl
colon_none p (group d a r) e = refl
colon_none p empty e = refl

other_ident : (i : Ident) (m : Marked) → other_first (mark_leaf (as_leaf.Ident i) m) ≡ false
unfolding other_first
other_ident i (token (as_leaf.Punct bang) (inside b a r)) =
    elim (is_bang_group bang b) as (λ t. other_first (if t then call bare i bang b a r else token (as_leaf.Ident i) (token (as_leaf.Punct bang) (inside b a r))) ≡ false) [ true ↦ refl | false ↦ refl ]
other_ident i (call (other s q) name bang b a r) =
    elim (is_root i) as (λ t. other_first (if t then call (from_crate i s q) name bang b a r else token (as_leaf.Ident i) (call (other s q) name bang b a r)) ≡ false) [ true ↦ refl | false ↦ refl ]
other_ident i m = refl

other_none : (f : Forest) → call_behind_colons f ≡ None → other_first (marked f) ≡ false
unfolding other_first
other_none (leaf (as_leaf.Punct p) rest) e = ap other_first (mark_punct p (marked rest) (colon_none p rest e))
other_none (leaf (as_leaf.Ident i) rest) e = other_ident i (marked rest)
other_none (leaf (as_leaf.Literal i) rest) e = refl
other_none (group d a r) e = refl
other_none empty e = refl

and_swapped : (t : Bool) (o : Option Call) (b : Bool) → (t >> o) ≡ None → (o ≡ None → b ≡ false) → (b && t) ≡ false
and_swapped true o b e h = rw (h e) refl
and_swapped false o true e h = refl
and_swapped false o false e h = refl

-- a leaf at which no call begins, nor a `::` with one
pub no_call : (l : Leaf) (rest : Forest) → crate_call (leaf l rest) ≡ None → bare_call (leaf l rest) ≡ None → call_behind_colons (leaf l rest) ≡ None
    → marked (leaf l rest) ≡ token l (marked rest)
no_call (as_leaf.Ident i) rest e d h =
    mark_ident i (marked rest) (bang_none i rest d) (and_swapped (is_root i) (call_behind_colons rest) _ e (other_none rest))
no_call (as_leaf.Punct p) rest e d h = mark_punct p (marked rest) (colon_none p rest h)
no_call (as_leaf.Literal p) rest e d h = refl
