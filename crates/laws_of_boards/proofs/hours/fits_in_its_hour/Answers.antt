use Rattle.laws_of_boards.proofs.Fitting.{fits_in}
use Rattle.laws_of_boards.proofs.hours.fits_in_its_hour.Goals as goal

pub returns : goal.returns
returns c = fits_in
