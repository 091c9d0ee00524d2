use Rattle.std.proofs.Common.{refl}
use Rattle.lab.proofs.Listings.{listings_tell}
use Rattle.lab.proofs.Lengths.{lines_fit}
use Rattle.lab.proofs.listing.Listing.new.Goals as goal

pub returns : goal.returns
returns c = record { rest = refl; tells = listings_tell; fit = lines_fit }
