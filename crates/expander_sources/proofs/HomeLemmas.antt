-- What stands for the root of a crate, and how it is spelled.
use Rattle.std.proofs.Common.{◌≡◌, ◌∙◌, ℕ, suc, ◌+◌, ◌^◌, Bool, List, length, nat_lt, ap, arith}
use Rattle.std.specs.Prelude.{◌&&◌}
use Rattle.bridge.specs.Spelling.{is_root_text, is_rooted}
use Rattle.expander_sources.specs.Homes.{root_of}

same_bound : (n : ℕ) → nat_lt (7 + n) (2 ^ 32) ≡ nat_lt n 4294967289
same_bound n = grind arith

longer : (n : ℕ) → nat_lt (suc (suc (suc (suc (suc (suc (suc n))))))) (2 ^ 32) ≡ nat_lt (7 + n) (2 ^ 32)
longer n = ap (λ (m : ℕ). nat_lt m (2 ^ 32)) (omega arith)

-- a name is spelled if it is short
pub rooted_is : (name : List ℕ) → is_rooted (root_of name) ≡ (nat_lt (length name) 4294967289 && is_root_text name)
rooted_is name = ap (λ (b : Bool). b && is_root_text name) (longer (length name) ∙ same_bound (length name))
