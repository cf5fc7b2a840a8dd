-- A change makes one text the other.
use Rattle.std.proofs.Common.{◌≡◌, ◌∙◌, ◌+◌, ◌-◌, ◌++◌, ℕ, List, ap, arith, drop, length, length-drop, sym, take}
use Rattle.std.proofs.lemmas.List.{drop-drop, take-append-drop}
use Rattle.rustc_lexer.specs.Edit.{edited}
use Rattle.pieced_text.specs.Changes.{Changes}
use Rattle.pieced_text.specs.declared.difference.Change.{Change}

module _ (old new : List ℕ) (c : Change) (changes : Changes old new c) where
  pub changed_is : edited old c.start c.old_end (take (c.new_end - c.start) (drop c.start new)) ≡ new
  changed_is =
      let there : c.start + (c.new_end - c.start) ≡ c.new_end = omega (arith, changes.new_order) in
      ap (λ (l : List ℕ). l ++ (take (c.new_end - c.start) (drop c.start new) ++ drop c.old_end old)) changes.front
      ∙ ap (λ (l : List ℕ). take c.start new ++ (take (c.new_end - c.start) (drop c.start new) ++ l))
      (changes.back ∙ ap (λ (n : ℕ). drop n new) (sym there) ∙ sym (drop-drop (c.new_end - c.start) c.start new))
      ∙ ap (λ (l : List ℕ). take c.start new ++ l) (take-append-drop (c.new_end - c.start) (drop c.start new))
      ∙ take-append-drop c.start new

  -- what is behind it is as long in both
  pub as_long : length old - (c.old_end - c.start) + (c.new_end - c.start) ≡ length new
  as_long =
      omega (
        arith,
        ap length changes.back,
        length-drop c.old_end old,
        length-drop c.new_end new,
        changes.old_order,
        changes.new_order,
        changes.old_end.0,
        changes.new_end.0,
      )
