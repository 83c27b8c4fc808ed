-- A write before a place leaves what stands from there on.
use Rattle.std.proofs.Common.{◌≡◌, ℕ, ◌<◌, List, drop, set, ◌∙◌, subst}
use Rattle.std.proofs.lemmas.List.{drop-set-lt}

pub rest_more : (n : ℕ) (xs ys : List ℕ) (i v : ℕ) → i < n → drop n xs ≡ drop n ys → drop n (set xs i v) ≡ drop n ys
rest_more n xs ys i v l e = drop-set-lt n xs i v l ∙ e

pub rest_all : (n m : ℕ) (xs ys zs : List ℕ) → m ≡ n → drop n xs ≡ drop n ys → drop m ys ≡ drop m zs → drop n xs ≡ drop n zs
rest_all n m xs ys zs e h k = h ∙ subst (λ i. drop i ys ≡ drop i zs) e k
