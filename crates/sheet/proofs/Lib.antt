mod Fits
mod Judging
mod Origins
mod Rests
mod Rows
