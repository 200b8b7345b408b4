-- What the fields of an outlet stand for.
use Rattle.std.specs.Prelude.{◌≡◌, Some, vec_len, vec_capacity, replicate}
use Rattle.felm_term.specs.declared.message.Message.{Message}
use Rattle.felm_edges.specs.Parts.{OutletValue}
use Rattle.felm_edges.specs.declared.outlet.Outlet.TheInside.{Inside}

abbrev pub outlet_of : Inside → OutletValue
outlet_of a = record { message = a.message; left = vec_len a.copies; room = vec_capacity a.copies }

-- all copies are of the node's own message
abbrev pub AreCopies : Inside → Type 0
AreCopies a = (m : Message) → a.message ≡ Some m → a.copies.items ≡ replicate (vec_len a.copies) m
