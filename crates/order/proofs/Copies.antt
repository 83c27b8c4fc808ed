-- An order that is copied from a table.
use Rattle.std.proofs.Common.{◌≡◌, ℕ, ◌≤◌, List, length, take, drop, sym, subst, arith}
use Rattle.graph.specs.Graph.{Graph, vertices}
use Rattle.degeneracy.specs.Order.{IsOrder, IsPeak}
use Rattle.order.specs.Order.{OrderedIn}

pub ordered_copied : (g : Graph) (blank table before after : List ℕ) (len most : ℕ) → OrderedIn g blank table len most → vertices g ≤ length after → take len after ≡ take len table → drop len after ≡ drop len before → OrderedIn g before after len most
ordered_copied g blank table before after len most o l e r =
    record {
      len_is = o.len_is;
      fits = omega (arith, o.len_is);
      order = subst (IsOrder g) (sym e) o.order;
      peak = subst (λ p. IsPeak g p most) (sym e) o.peak;
      degeneracy = o.degeneracy;
      rest = r;
    }
