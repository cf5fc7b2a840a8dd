-- A head has 31 bytes, and no text.
use Rattle.std.proofs.Common.{◌≡◌, ◌∙◌, ◌++◌, ◌+◌, ◌-◌, ◌/◌, List, ℕ, ap, sym, subst, arith, length, take, drop}
use Rattle.tt_data.specs.declared.tree.TokenTree.{TokenTree}
use Rattle.token_bytes.specs.Marks.{IsHeadIn}
use Rattle.token_bytes.specs.Packed.{ArePacked}
use Rattle.token_bytes.specs.Packing.{tokens_in}
use Rattle.token_bytes.specs.declared.mark.Mark.{Mark}
use Rattle.token_bytes.proofs.MarkLemmas.{Holds, IsHeadIn-mark, Without, head_there, length-tokens_in, removed}
use Rattle.token_bytes.specs.Starts.{AreStarts}
use Rattle.token_bytes.proofs.StartLemmas.{starts_append, starts_cut, starts_held}
use Rattle.token_bytes.proofs.buffer.TokenBuffer.remove_head.Goals as goal

without : (at : Mark) (ts : List TokenTree) (n : ℕ) (bytes : List ℕ) (table : List (List ℕ)) → ArePacked (tokens_in n table bytes) bytes table
    → tokens_in n table bytes ≡ ts → IsHeadIn at ts → Without at ts bytes table
without at ts n bytes table all shown is =
    removed at ts bytes table (subst (λ l. ArePacked l bytes table) shown all) (IsHeadIn-mark at ts is) (head_there at ts is)

counted : (ts : List TokenTree) (n : ℕ) (bytes : List ℕ) (table : List (List ℕ)) → tokens_in n table bytes ≡ ts → length ts ≡ n
counted ts n bytes table shown = ap length (sym shown) ∙ length-tokens_in n table bytes

held : (at : Mark) (ts : List TokenTree) (n : ℕ) (bytes bytes2 : List ℕ) (table : List (List ℕ)) → ArePacked (tokens_in n table bytes) bytes table
    → tokens_in n table bytes ≡ ts → IsHeadIn at ts → bytes2 ≡ take at.bytes bytes ++ drop (at.bytes + 31) bytes
    → Holds (take at.count ts ++ drop (at.count + 1) ts) (n - 1) bytes2 table
held at ts n bytes bytes2 table all shown is cut =
    subst (λ b. Holds (take at.count ts ++ drop (at.count + 1) ts) (n - 1) b table) (sym cut)
    (subst (λ k. Holds (take at.count ts ++ drop (at.count + 1) ts) (k - 1) (take at.bytes bytes ++ drop (at.bytes + 31) bytes) table)
    (counted ts n bytes table shown) (without at ts n bytes table all shown is).after)

pub cut_out-requires : goal.cut_out-requires
cut_out-requires c = (without _ _ _ _ _ c.self.invariant.0 c.self.view_is c.requires).fits

pub overflow_sub-self : goal.overflow_sub-self
overflow_sub-self c = omega (
  arith,
  (without _ _ _ _ _ c.self.invariant.0 c.self.view_is c.requires).some,
  counted _ _ c.self.inside.stored.records c.self.inside.stored.texts.texts.items c.self.view_is,
)

pub invariant_of-self : goal.invariant_of-self
invariant_of-self c =
    let ts = c.args.self.now in
    let n = c.args.at.count in
    let left = held _ _ _ _ _ _ c.self.invariant.0 c.self.view_is c.requires c.cut_out.ensures in
    let starts = subst (AreStarts 64 c.self.inside.stored.starts.items) c.self.view_is c.self.invariant.2 in
    let fewer = starts_cut (n / 64) 64 n c.self.inside.stored.starts.items ts (omega arith) starts in
    let cut = subst (λ l. AreStarts 64 l (take n ts ++ drop (n + 1) ts)) (sym c.truncate.ensures.items)
    (starts_append 64 (take (n / 64) c.self.inside.stored.starts.items) (take n ts) (drop (n + 1) ts) fewer) in
    (left.packed, c.self.invariant.1, starts_held (take n ts ++ drop (n + 1) ts) _ _ _ _ left cut)

pub returns : goal.returns
returns c = (held _ _ _ _ _ _ c.self.invariant.0 c.self.view_is c.requires c.cut_out.ensures).shown
