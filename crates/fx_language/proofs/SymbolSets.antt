-- What sets of symbols have.
use Rattle.std.proofs.Common.{ℕ, ◌≡◌, ◌<◌, ◌^◌, max, Bool, true, false, ◌||◌, refl, arith}
use Rattle.std.specs.Int.{bit_at}
use Rattle.std.specs.Int.RustNames.{bit_or}
use Rattle.std.proofs.lemmas.Bool.{eqb-true, eqb-false}
use Rattle.std.proofs.lemmas.Nat.Bits.{bit_at_or, bit_at-lt, bit_at-pow_same, bit_at-pow_other, bit_at-zero}
use Rattle.fx_language.specs.declared.symbol.Symbol.{Symbol}
use Rattle.fx_language.specs.declared.symbol.Symbol.TheVariants.{Proc}
use Rattle.fx_language.specs.declared.symbol_set.SymbolSet.{SymbolSet}
use Rattle.fx_language.specs.Symbols.{index, is}
use Rattle.fx_language.specs.SymbolSets.{empty, has, including}

-- there is a bit for each
pub index_fits : (s : Symbol) → index s < 64
index_fits Proc = omega arith
index_fits s = omega arith

pub has_none : (s : Symbol) → has empty s ≡ false
has_none s = cc (bit_at-zero (index s))

pub has_including : (s word : Symbol) (set : SymbolSet) → has (including s set) word ≡ (is word s || has set word)
has_including s word set = by _ refl
  where
    n : ℕ
    n = set.bits

    both : bit_at (bit_or n (2 ^ index s)) (index word)
        ≡ max (bit_at n (index word)) (bit_at (2 ^ index s) (index word))
    both = bit_at_or n _ _

    by : (b : Bool) → is word s ≡ b → has (including s set) word ≡ (b || has set word)
    by true e =
        let one : bit_at (2 ^ index s) (index word) ≡ 1 =
        cc (eqb-true _ _ e, bit_at-pow_same (index s)) in
        let set_bit : bit_at (bit_or n (2 ^ index s)) (index word) ≡ 1 =
        omega (arith, both, bit_at-lt n (index word)) in
        cc
    by false e =
        let none = bit_at-pow_other _ _ (eqb-false _ _ e) in
        let same : bit_at (bit_or n (2 ^ index s)) (index word) ≡ bit_at n (index word) = omega (arith, both) in
        cc
