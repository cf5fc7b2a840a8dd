-- Results of searches, one after another.
use Rattle.std.proofs.Common.{◌≡◌, Bool, true, false, List, [], ◌∷◌, ◌++◌, refl, ap, sym, ◌∙◌, append_assoc, append-nil}
use Rattle.std.specs.Prelude.{ℕ, Option, ◌||◌}
use Rattle.tt_data.specs.Forest.{Forest}
use Rattle.expander_model.specs.Definitions.{Definition}
use Rattle.expander_model.specs.Expansion.{World, Outcome, just, followed_by}
use Rattle.expander_model.specs.declared.dialect.Dialect.{Dialect}
use Rattle.expander_model.specs.Scoping.{Around, Scoped, Search, Expander, kind_in, only, and_next, behind, search_piece, search_pieces}

or_assoc : (a b c : Bool) → ((a || b) || c) ≡ (a || (b || c))
or_assoc true b c = refl
or_assoc false b c = refl

or_false : (a : Bool) → (a || false) ≡ a
or_false true = refl
or_false false = refl

behind_both : (ds es : List Definition) (around : Around) → behind ds (behind es around) ≡ behind (ds ++ es) around
behind_both ds es around = ap (λ l. record around { locals = l }) (sym (append_assoc ds es around.locals))

module _ {D : Type 0} where
  pub followed_assoc : (a b c : Outcome D) → followed_by (followed_by a b) c ≡ followed_by a (followed_by b c)
  followed_assoc a b c = λ i. record {
    steps = append_assoc a.steps b.steps c.steps i;
    faults = append_assoc a.faults b.faults c.faults i;
    finds = append_assoc a.finds b.finds c.finds i;
    bursts = or_assoc a.bursts b.bursts c.bursts i;
  }

  pub followed_by_nothing : (a : Outcome D) (outer : Option _) → followed_by a (just outer []) ≡ a
  followed_by_nothing a outer = λ i. record {
    steps = append-nil a.steps i;
    faults = append-nil a.faults i;
    finds = append-nil a.finds i;
    bursts = or_false a.bursts i;
  }

  -- two results are the same by their parts
  pub scoped_same : (a b : Scoped D) → a.outcome ≡ b.outcome → a.defines ≡ b.defines → a ≡ b
  scoped_same a b p q = λ i. record { outcome = p i; defines = q i }

  -- three results, one after another
  pub and_next_assoc : (a : Scoped D) (f g : Around → Scoped D) (around : Around)
      → and_next (and_next a f around) g around ≡ and_next a (λ here. and_next (f here) g here) around
  and_next_assoc a f g around =
      let b : Scoped D = f (behind a.defines around) in
      let after : Around → Scoped D = λ here.
      record { outcome = followed_by (followed_by a.outcome b.outcome) (g here).outcome; defines = (g here).defines ++ (b.defines ++ a.defines) } in
      let here : Around = behind b.defines (behind a.defines around) in
      ap after (sym (behind_both b.defines a.defines around))
      ∙ scoped_same (after here) (and_next a (λ here. and_next (f here) g here) around)
      (followed_assoc a.outcome b.outcome (g here).outcome)
      (sym (append_assoc (g here).defines b.defines a.defines))

  -- nothing comes after a result
  pub and_nothing : (a : Scoped D) (around : Around) → and_next a (λ here. only (just here.outer [])) around ≡ a
  and_nothing a around = scoped_same (and_next a (λ here. only (just here.outer [])) around) a (followed_by_nothing a.outcome around.outer) refl

  -- nothing comes before a result
  pub nothing_and : (outer : Option _) (f : Around → Scoped D) (around : Around) → and_next (only (just outer [])) f around ≡ f around
  nothing_and outer f around = scoped_same (and_next (only (just outer [])) f around) (f around) refl (append-nil (f around).defines)

  -- the same results one after another
  pub same_next : (a b : Scoped D) (f g : Around → Scoped D) (around : Around) → b ≡ a
      → g (behind a.defines around) ≡ f (behind a.defines around) → and_next b g around ≡ and_next a f around
  same_next a b f g around here there =
      ap (λ (x : Scoped D). and_next x g around) here
      ∙ ap (λ (x : Scoped D). record { outcome = followed_by a.outcome x.outcome; defines = x.defines ++ a.defines }) there

module _ {D : Type 0} (dialect : Dialect) (world : World D) (local : Definition → D) (scope : List ℕ → Option D) (search : Search D) (deeper : Option (Expander D)) where
  -- the parts of two lists, one list after the other
  pub parts-append : (around : Around) (front back : List Forest) → search_pieces dialect world local scope search deeper around (front ++ back)
      ≡ and_next (search_pieces dialect world local scope search deeper around front) (λ here. search_pieces dialect world local scope search deeper here back) around
  parts-append around [] back = sym (nothing_and around.outer (λ here. search_pieces dialect world local scope search deeper here back) around)
  parts-append around (p ∷ front) back =
      let a : Scoped D = search_piece dialect world local scope search deeper around p (kind_in dialect around.standing p) in
      let f : Around → Scoped D = λ here. search_pieces dialect world local scope search deeper here front in
      let g : Around → Scoped D = λ here. search_pieces dialect world local scope search deeper here back in
      same_next a a (λ here. and_next (f here) g here) (λ here. search_pieces dialect world local scope search deeper here (front ++ back)) around
      refl (parts-append (behind a.defines around) front back)
      ∙ sym (and_next_assoc a f g around)
