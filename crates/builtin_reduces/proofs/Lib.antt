mod Near
mod Printed
mod Bounds
mod Told
mod Appended
pub mod WideBack
pub mod SumReads
mod ItemParts
pub mod Joinable
mod SumLines
mod AddedFits
mod ValueFits
mod Caused
