-- The masks and degrees of the code are those of the definition.
use Rattle.std.proofs.Common.{◌≡◌, ℕ, ◌+◌, ◌/◌, ◌^◌, ◌<◌, ◌≤◌, Bool, not, ◌&&◌, ltb, List, [], ◌∷◌, ◌++◌, length, get_or, map, take, sym, ap, ◌∙◌, arith}
use Rattle.std.proofs.lemmas.List.{length-map, length-take-le, map_more}
use Rattle.finite.specs.Masks.{bit}
use Rattle.finite.proofs.Masks.{mask_is}
use Rattle.grids.specs.Classes.{classes}
use Rattle.grids.specs.Largest.{at_least, largest, top}
use Rattle.grids.proofs.Classes.{classes_some}
use Rattle.grids.proofs.Largest.{largest_same}
use Rattle.grids.proofs.Pairs.{tops_reach}
use Rattle.pictures.specs.Pictures.{joined, neighbours, places}
use Rattle.pictures.specs.declared.shape.Picture.{Picture}
use Rattle.two_part.specs.TwoPart.{lower_part, upper_part, clique_degree, part_reaching, two_part}

-- a place's clique degree
pub degree_is : (answer : Picture → ℕ → ℕ) (p : Picture) (other i row met found : ℕ) → met < 2 ^ 64 → row ≡ neighbours p i → ((j : ℕ) → bit met j ≡ (bit row j && bit other j)) → found ≡ answer p met → found ≡ clique_degree answer p other i
degree_is answer p other i row met found l er members ef =
    ef ∙ ap (answer p) (mask_is 64 met (λ j. joined p i j && bit other j) l (λ j. members j ∙ ap (λ (v : ℕ). bit v j && bit other j) er))

-- the lower part
pub lower_is : (p : Picture) (m half count u : ℕ) → u < 2 ^ 64 → count ≡ places p → ((j : ℕ) → bit half j ≡ ltb j (count / 2)) → ((j : ℕ) → bit u j ≡ (bit m j && bit half j)) → u ≡ lower_part p m
lower_is p m half count u l ec eh members =
    mask_is 64 u (λ i. bit m i && ltb i (places p / 2)) l (λ j. members j ∙ ap (λ (v : Bool). bit m j && v) (eh j ∙ ap (λ (n : ℕ). ltb j (n / 2)) ec))

-- the upper part
pub upper_is : (p : Picture) (m half count count' all inside w : ℕ) → w < 2 ^ 64 → count ≡ places p → count' ≡ places p → ((j : ℕ) → bit half j ≡ ltb j (count / 2)) → ((j : ℕ) → bit all j ≡ ltb j count') → ((j : ℕ) → bit inside j ≡ (bit m j && bit all j)) → ((j : ℕ) → bit w j ≡ (bit inside j && not (bit half j))) → w ≡ upper_part p m
upper_is p m half count count' all inside w l ec ed eh ea ei members =
    mask_is 64 w (λ i. (bit m i && ltb i (places p)) && not (ltb i (places p / 2))) l (λ j.
    members j ∙ ap (λ (v : Bool). v && not (bit half j)) (ei j ∙ ap (λ (v : Bool). bit m j && v) (ea j ∙ ap (ltb j) ed)) ∙ ap (λ (v : Bool). (bit m j && ltb j (places p)) && not v) (eh j ∙ ap (λ (n : ℕ). ltb j (n / 2)) ec))

-- there is room for one more
pub tops_room : (f : ℕ → ℕ) (cs ts : List ℕ) (i : ℕ) → ts ≡ map f (take i cs) → i < length cs → length cs ≤ 64 → length ts < 64
tops_room f cs ts i e l h = omega (arith, ap length e, length-map (take i cs) f, length-take-le i cs (omega arith))

-- the largest of one class more
pub tops_more : (f : ℕ → ℕ) (cs : List ℕ) (i : ℕ) (ts new : List ℕ) (t : ℕ) → i < length cs → ts ≡ map f (take i cs) → new ≡ ts ++ t ∷ [] → t ≡ f (get_or cs i 0) → new ≡ map f (take (i + 1) cs)
tops_more f cs i ts new t l e n is =
    n ∙ ap (λ xs. xs ++ t ∷ []) e ∙ ap (λ x. map f (take i cs) ++ x ∷ []) is ∙ sym (map_more f cs i 0 l)

-- the largest clique degree of each class
pub tops_are : (answer : Picture → ℕ → ℕ) (p : Picture) (own other : ℕ) (cs ts : List ℕ) → cs ≡ classes p.rows own (places p) → ts ≡ map (top (clique_degree answer p other)) cs → (s : ℕ) → at_least ts s ≡ part_reaching answer p own other s
tops_are answer p own other cs ts e f s =
    let degree = clique_degree answer p other in
    ap (λ (xs : List ℕ). at_least xs s) (f ∙ ap (map (top degree)) e) ∙ tops_reach degree (classes p.rows own (places p)) s (λ k h. classes_some p.rows own (places p) k p.small h)

-- the answer
pub answer_is : (answer : Picture → ℕ → ℕ) (p : Picture) (m u w : ℕ) (us ws : List ℕ) (r : ℕ) → u ≡ lower_part p m → w ≡ upper_part p m → ((s : ℕ) → at_least us s ≡ part_reaching answer p u w s) → ((s : ℕ) → at_least ws s ≡ part_reaching answer p w u s) → r ≡ largest (at_least us) (at_least ws) → r ≡ two_part answer p m
answer_is answer p m u w us ws r eu ew fu fw er =
    er ∙ largest_same (at_least us) (at_least ws) (part_reaching answer p (lower_part p m) (upper_part p m)) (part_reaching answer p (upper_part p m) (lower_part p m))
    (λ s. fu s ∙ ap (λ (x : ℕ). part_reaching answer p x w s) eu ∙ ap (λ (x : ℕ). part_reaching answer p (lower_part p m) x s) ew)
    (λ s. fw s ∙ ap (λ (x : ℕ). part_reaching answer p x u s) ew ∙ ap (λ (x : ℕ). part_reaching answer p (upper_part p m) x s) eu)
