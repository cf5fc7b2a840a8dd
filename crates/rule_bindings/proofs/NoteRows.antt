-- Worked rows: the notes on templates, and on rules.
use Rattle.std.proofs.Common.{◌≡◌, refl, ℕ, List, [], ◌∷◌, codes, Option, Some, None}
use Rattle.tt_data.specs.Forest.{Forest}
use Rattle.tt_data.specs.declared.delimiter.Delimiter.{Delimiter}
use Rattle.tt_data.specs.declared.span.Span.{Span}
use Rattle.mbe_rules.specs.Items.{Items, done, dollar, group_of, item, repetition, variable}
use Rattle.mbe_rules.specs.declared.parser.MetaVarKind.TheVariants as kind
use Rattle.mbe_rules.specs.declared.parser.RepeatKind.TheVariants.{ZeroOrMore, ZeroOrOne}
use Rattle.mbe_matcher.specs.Bindings.{Binding, fragment, no_more, rounds, skipped}
use Rattle.mbe_matcher.specs.Bindings.{value}
use Rattle.rule_bindings.specs.Notes.{Unequal, first_unequal, unbound_names}

module _ (f : Forest) (d : Delimiter) (s : Span) where
  -- `$a` and others before ops
  abbrev a : Items → Items
  a rest = item (dollar (variable (codes "a") None) s) rest

  abbrev b : Items → Items
  b rest = item (dollar (variable (codes "b") None) s) rest

  abbrev c : Items → Items
  c rest = item (dollar (variable (codes "c") None) s) rest

  -- an identifier, and lists of two and three
  abbrev one : Binding
  one = fragment kind.Ident f

  abbrev two : Binding
  two = rounds (value one (value one no_more))

  abbrev three : Binding
  three = rounds (value one (value one (value one no_more)))

  -- `$( .. )*` at the end
  abbrev all : Items → Items
  all body = repetition body None ZeroOrMore done

  -- ---- names that nothing binds

  -- `$a $b [$c $b]`, where `a` is bound: each once
  pub unbound : unbound_names ((codes "a", one) ∷ []) (a (b (group_of d (c (b done)) done)))
      ≡ codes "b" ∷ codes "c" ∷ []
  unbound = refl

  -- `$a`, where it is skipped
  pub no-unbound : unbound_names ((codes "a", skipped) ∷ []) (a done) ≡ []
  no-unbound = refl

  -- ---- repetitions of unequal length

  abbrev counts : List ℕ → ℕ → List ℕ → ℕ → Option Unequal
  counts n k m l = Some (record {
    one = record { name = n; count = k };
    other = record { name = m; count = l };
  })

  -- `$($a $b)*`, three of one and two of the other
  pub unequal : first_unequal ((codes "a", three) ∷ (codes "b", two) ∷ []) (all (a (b done)))
      ≡ counts (codes "a") 3 (codes "b") 2
  unequal = refl

  -- the same, none of the other
  pub none-of-one : first_unequal ((codes "a", two) ∷ (codes "b", skipped) ∷ []) (all (a (b done)))
      ≡ counts (codes "a") 2 (codes "b") 0
  none-of-one = refl

  -- two of each; what is no list, or what nothing binds, does not count
  pub equal : first_unequal ((codes "a", two) ∷ (codes "b", two) ∷ (codes "c", one) ∷ [])
      (all (c (a (b (item (dollar (variable (codes "d") None) s) done)))))
      ≡ None
  equal = refl

  -- `$($($a $b)*)*`: the second of two iterations has two of one and three of the other
  pub in-iteration : first_unequal
      ((codes "a", rounds (value two (value two no_more)))
      ∷ (codes "b", rounds (value two (value three no_more))) ∷ [])
      (all (all (a (b done))))
      ≡ counts (codes "a") 2 (codes "b") 3
  in-iteration = refl

  -- the same in `$(..)?`, of which a transcriber makes the first iteration alone
  pub not-in-iteration : first_unequal
      ((codes "a", rounds (value two (value two no_more)))
      ∷ (codes "b", rounds (value two (value three no_more))) ∷ [])
      (repetition (all (a (b done))) None ZeroOrOne done)
      ≡ None
  not-in-iteration = refl
