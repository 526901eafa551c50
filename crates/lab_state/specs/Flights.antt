-- How many bios are in flight at each device, made or not (this project's own).
pub use Rattle.lab_bios.specs.Flights.{AddsFlight, AreAllCounted}
